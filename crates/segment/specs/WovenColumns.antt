-- Columns in the making with what the documents of other columns have.
-- For proofs alone: no public contract rests on it.
use Rattle.std.specs.Prelude.{◌≡◌, ◌<◌, ℕ, ℤ, Bool, List, length, map, Option, Some, None, IfSome, String, Box, All}
use Rattle.std.specs.BTreeMap.{BTreeMap}
use Rattle.std.specs.declared.alloc.Global.{Global}
use Rattle.doc.specs.Document.{all_values}
use Rattle.doc.specs.Mapping.{MappingData}
use Rattle.marks.specs.Lists.{marked, places}
use Rattle.segment.specs.Added.{making_at}
use Rattle.segment.specs.Indexed.{column_at}
use Rattle.segment.specs.Joined.{AreMakings}
use Rattle.segment.specs.Places.{places_at, places_at_long}
use Rattle.segment.specs.Posted.{places_so_far, places_so_far_long, IsEmptyMaking}
use Rattle.segment.specs.Woven.{masked, moved_by, risen}
use Rattle.segment.specs.declared.column.Column.{Column}
use Rattle.segment.specs.declared.making.Making.{Making}

-- the places that are given are below n
abbrev pub AreWithin : ℕ → List (Option ℕ) → Type 0
AreWithin n to = All (λ o. IfSome o (λ p. p < n)) to

-- each document of the column is given a place or none
pub record IsCovered (to : List (Option ℕ)) (c : Column) : Type 0 where
  pub has : length c.has ≡ length to
  pub texts : (w : List ℕ) → All (λ p. p < length to) (places_at c.texts w)
  pub longs : (z : ℤ) → All (λ p. p < length to) (places_at_long c.longs z)
  pub yes : length c.yes ≡ length to
  pub no : length c.no ≡ length to

-- each column's are
abbrev pub AreCovered : List (Option ℕ) → BTreeMap (String Global) (Box Column Global) → Type 0
AreCovered to columns = (name : List ℕ) → IfSome (column_at columns name) (IsCovered to)

-- the places of the column, moved, are among those of the column in the making
pub record IsWoven (to : List (Option ℕ)) (c : Column) (old new : Making) : Type 0 where
  pub has : new.has ≡ marked old.has (moved_by to (places (λ b. b) c.has))
  pub texts : (w : List ℕ) → places_so_far new.texts w ≡ risen (places_so_far old.texts w) (moved_by to (places_at c.texts w))
  pub longs : (z : ℤ) → places_so_far_long new.longs z ≡ risen (places_so_far_long old.longs z) (moved_by to (places_at_long c.longs z))
  pub yes : new.yes ≡ marked old.yes (moved_by to (places (λ b. b) c.yes))
  pub no : new.no ≡ marked old.no (moved_by to (places (λ b. b) c.no))

-- the first that a column of n documents has
pub record IsWovenFirst (n : ℕ) (to : List (Option ℕ)) (c : Column) (new : Making) : Type 0 where
  pub empty : Making
  pub none : IsEmptyMaking n empty
  pub woven : IsWoven to c empty new

-- a field has a column where it had one or gets one
abbrev pub IsWovenOr : ℕ → List (Option ℕ) → Option Column → Option Making → Option Making → Type 0
IsWovenOr n to None old new = new ≡ old
IsWovenOr n to (Some c) None None = ⊥
IsWovenOr n to (Some c) None (Some new) = IsWovenFirst n to c new
IsWovenOr n to (Some c) (Some old) None = ⊥
IsWovenOr n to (Some c) (Some old) (Some new) = IsWoven to c old new

-- each field has
abbrev pub AreWoven : ℕ → List (Option ℕ) → BTreeMap (String Global) (Box Column Global) → BTreeMap (String Global) (Box Making Global) → BTreeMap (String Global) (Box Making Global) → Type 0
AreWoven n to columns old new = (name : List ℕ) → IsWovenOr n to (column_at columns name) (making_at old name) (making_at new name)

-- the columns in the making have the documents that are marked
pub record AreSoFar (m : MappingData) (sources : List (List ℕ)) (taken : List Bool) (makings : BTreeMap (String Global) (Box Making Global)) : Type 0 where
  pub whole : length taken ≡ length sources
  pub columns : AreMakings m.fields (masked taken (map (all_values m) sources)) (length sources) makings
