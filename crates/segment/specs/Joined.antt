-- Columns in the making of documents in pieces.
-- For proofs alone: no public contract rests on it.
use Rattle.std.specs.Prelude.{◌≡◌, ℕ, ℤ, Bool, false, ◌||◌, List, [], ◌++◌, replicate, Option, Some, None, String, Box, All}
use Rattle.std.specs.BTreeMap.{BTreeMap}
use Rattle.std.specs.declared.alloc.Global.{Global}
use Rattle.doc.specs.Fields.{Fields}
use Rattle.doc.specs.Scalar.{text, long, flag}
use Rattle.std.specs.Prelude.{true}
use Rattle.doc.specs.Document.{Values, values_at}
use Rattle.marks.specs.Lists.{marked, places, zip_with}
use Rattle.segment.specs.Added.{making_at}
use Rattle.segment.specs.Indexed.{has_term, has_value}
use Rattle.segment.specs.Posted.{places_so_far, places_so_far_long}
use Rattle.segment.specs.declared.making.Making.{Making}

-- a column in the making that has the documents so far, of n in all
pub record IsColumnOf (fields : Fields) (docs : List Values) (name : List ℕ) (n : ℕ) (c : Making) : Type 0 where
  pub has : c.has ≡ marked (replicate n false) (places (has_value name) docs)
  pub texts : (w : List ℕ) → places_so_far c.texts w ≡ places (has_term fields name (text w)) docs
  pub longs : (z : ℤ) → places_so_far_long c.longs z ≡ places (has_term fields name (long z)) docs
  pub yes : c.yes ≡ marked (replicate n false) (places (has_term fields name (flag true)) docs)
  pub no : c.no ≡ marked (replicate n false) (places (has_term fields name (flag false)) docs)

-- a field without a column has no value in any of the documents
abbrev pub IsMakingOr : Fields → List Values → ℕ → List ℕ → Option Making → Type 0
IsMakingOr fields docs n name None = All (λ d. values_at name d ≡ []) docs
IsMakingOr fields docs n name (Some m) = IsColumnOf fields docs name n m

-- the columns in the making of the documents so far, of n in all
abbrev pub AreMakings : Fields → List Values → ℕ → BTreeMap (String Global) (Box Making Global) → Type 0
AreMakings fields docs n ms = (name : List ℕ) → IsMakingOr fields docs n name (making_at ms name)

-- documents after so many that have no values
abbrev pub behind : ℕ → List Values → List Values
behind begin docs = replicate begin [] ++ docs

-- the new column has what the old one has, however its texts and numbers are put
pub record IsPut (old new : Making) : Type 0 where
  pub has : new.has ≡ old.has
  pub texts : (w : List ℕ) → places_so_far new.texts w ≡ places_so_far old.texts w
  pub longs : (z : ℤ) → places_so_far_long new.longs z ≡ places_so_far_long old.longs z
  pub yes : new.yes ≡ old.yes
  pub no : new.no ≡ old.no

-- a field has a column where it had one
abbrev pub IsPutOr : Option Making → Option Making → Type 0
IsPutOr None None = Unit {0}
IsPutOr None (Some new) = ⊥
IsPutOr (Some old) None = ⊥
IsPutOr (Some old) (Some new) = IsPut old new

-- each field has
abbrev pub ArePut : BTreeMap (String Global) (Box Making Global) → BTreeMap (String Global) (Box Making Global) → Type 0
ArePut old new = (name : List ℕ) → IsPutOr (making_at old name) (making_at new name)

-- a column with what later documents have
pub record IsJoined (old later new : Making) : Type 0 where
  pub has : new.has ≡ zip_with (λ a b. a || b) old.has later.has
  pub texts : (w : List ℕ) → places_so_far new.texts w ≡ places_so_far old.texts w ++ places_so_far later.texts w
  pub longs : (z : ℤ) → places_so_far_long new.longs z ≡ places_so_far_long old.longs z ++ places_so_far_long later.longs z
  pub yes : new.yes ≡ zip_with (λ a b. a || b) old.yes later.yes
  pub no : new.no ≡ zip_with (λ a b. a || b) old.no later.no

-- a field has the column that the first documents or the later ones have, or both
abbrev pub IsJoinedOr : Option Making → Option Making → Option Making → Type 0
IsJoinedOr old None new = new ≡ old
IsJoinedOr None (Some later) new = new ≡ Some later
IsJoinedOr (Some old) (Some later) None = ⊥
IsJoinedOr (Some old) (Some later) (Some new) = IsJoined old later new

-- each field has
abbrev pub AreJoined : BTreeMap (String Global) (Box Making Global) → BTreeMap (String Global) (Box Making Global) → BTreeMap (String Global) (Box Making Global) → Type 0
AreJoined old later new = (name : List ℕ) → IsJoinedOr (making_at old name) (making_at later name) (making_at new name)
