-- Columns in the making with the values of one more document.
-- For proofs alone: no public contract rests on it.
use Rattle.std.specs.Prelude.{◌≡◌, ◌<◌, ℕ, ℤ, List, [], length, nat_lt, Option, Some, None, option_map, IfSome, String, Box, All}
use Rattle.std.specs.BTreeMap.{BTreeMap}
use Rattle.std.specs.declared.alloc.Global.{Global}
use Rattle.std.specs.BTreeMap as tree
use Rattle.doc.specs.Fields.{Fields, kind_at}
use Rattle.doc.specs.Scalar.{Scalar}
use Rattle.doc.specs.declared.mapping.Kind.{Kind}
use Rattle.doc.specs.Document.{Values, values_at}
use Rattle.analysis.specs.Terms.{terms_by}
use Rattle.segment.specs.Indexed.{column_at}
use Rattle.segment.specs.Posted.{IsPosted, IsEmptyMaking, IsFinished, places_so_far_long, set_if}
use Rattle.segment.specs.declared.column.Column.{Column}
use Rattle.segment.specs.declared.making.Making.{Making}

-- the terms of these values are posted, and the document is marked if there is a value
pub record IsAdded (k : Option Kind) (vs : List Scalar) (at : ℕ) (old new : Making) : Type 0 where
  pub posted : IsPosted (terms_by k vs) at old (record new { has = old.has })
  pub has : new.has ≡ set_if (nat_lt 0 (length vs)) at old.has

-- the first values in a column of n documents
pub record IsBegun (n : ℕ) (k : Option Kind) (vs : List Scalar) (at : ℕ) (new : Making) : Type 0 where
  pub empty : Making
  pub none : IsEmptyMaking n empty
  pub added : IsAdded k vs at empty new

-- a field has a column from its first values on
abbrev pub IsAddedOr : ℕ → Option Kind → List Scalar → ℕ → Option Making → Option Making → Type 0
IsAddedOr n k vs at None None = vs ≡ []
IsAddedOr n k vs at None (Some new) = IsBegun n k vs at new
IsAddedOr n k vs at (Some old) None = ⊥
IsAddedOr n k vs at (Some old) (Some new) = IsAdded k vs at old new

-- the column in the making of a field, where it has one
abbrev pub making_at : BTreeMap (String Global) (Box Making Global) → List ℕ → Option Making
making_at ms name = option_map (λ b. b.value) (tree.get_by_text ms name)

-- the values of the document are added to the columns of their fields
abbrev pub AreAdded : Fields → ℕ → Values → ℕ → BTreeMap (String Global) (Box Making Global) → BTreeMap (String Global) (Box Making Global) → Type 0
AreAdded fields n d at old new = (name : List ℕ) → IsAddedOr n (kind_at name fields) (values_at name d) at (making_at old name) (making_at new name)

-- a column in the making has a mark for each of n documents
pub record IsLong (n : ℕ) (m : Making) : Type 0 where
  pub has : length m.has ≡ n
  pub yes : length m.yes ≡ n
  pub no : length m.no ≡ n

-- each column has
abbrev pub AreLong : ℕ → BTreeMap (String Global) (Box Making Global) → Type 0
AreLong n ms = (name : List ℕ) → IfSome (making_at ms name) (IsLong n)

-- the places of numbers are below n
abbrev pub HaveFewPlaces : ℕ → BTreeMap (String Global) (Box Making Global) → Type 0
HaveFewPlaces n ms = (name : List ℕ) → IfSome (making_at ms name) (λ m. (z : ℤ) → All (λ p. p < n) (places_so_far_long m.longs z))

-- a field has a column where it had one in the making
abbrev pub IsFinishedOr : ℕ → Option Making → Option Column → Type 0
IsFinishedOr n None None = Unit {0}
IsFinishedOr n None (Some c) = ⊥
IsFinishedOr n (Some m) None = ⊥
IsFinishedOr n (Some m) (Some c) = IsFinished n m c

-- each field has the column that it had in the making
abbrev pub AreFinished : ℕ → BTreeMap (String Global) (Box Making Global) → BTreeMap (String Global) (Box Column Global) → Type 0
AreFinished n ms cs = (name : List ℕ) → IsFinishedOr n (making_at ms name) (column_at cs name)
