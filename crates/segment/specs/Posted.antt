-- A column in the making with the terms of one more document.
use Rattle.std.specs.Prelude.{◌≡◌, ◌<◌, ℕ, ℤ, Bool, true, false, List, [], length, replicate, slice_set, string_bytes, if◌then◌else◌}
use Rattle.std.specs.Ordering.{int_eq}
use Rattle.std.specs.Str.{bytes_eq}
use Rattle.doc.specs.Scalar.{Scalar, text, long, flag}
use Rattle.analysis.specs.Terms.{has}
use Rattle.segment.specs.Blocks.{AreBlocks}
use Rattle.segment.specs.Grouped.{places_posted}
use Rattle.segment.specs.Places.{added, places_at, places_in, places_at_long, places_listed}
use Rattle.segment.specs.declared.column.Column.{Column}
use Rattle.segment.specs.declared.longs.Longs.{Longs}
use Rattle.segment.specs.declared.longs.Longs.TheVariants as longs
use Rattle.segment.specs.declared.making.Making.{Making}
use Rattle.segment.specs.declared.texts.Texts.{Texts}
use Rattle.segment.specs.declared.texts.Texts.TheVariants.{Ordered, Table, Listed}

-- the places of a text in the making
abbrev pub places_so_far : Texts → List ℕ → List ℕ
places_so_far (Ordered m) w = places_at m w
places_so_far (Table m) w = places_in m w
places_so_far (Listed pairs) w = places_listed (λ k. bytes_eq w (string_bytes k)) pairs.items

-- the places of a number in the making
abbrev pub places_so_far_long : Longs → ℤ → List ℕ
places_so_far_long (longs.Ordered m) z = places_at_long m z
places_so_far_long (longs.Posted postings) z = places_posted (int_eq z) postings.items
places_so_far_long (longs.Listed pairs) z = places_listed (int_eq z) pairs.items

-- the places with this one added, or as they are
abbrev pub with_if : Bool → ℕ → List ℕ → List ℕ
with_if b at ps = if b then added ps at else ps

-- the marks with this place set, or as they are
abbrev pub set_if : Bool → ℕ → List Bool → List Bool
set_if b at ms = if b then slice_set ms at true else ms

-- the marks of truth values reach to the place
pub record IsRoomFor (at : ℕ) (c : Making) : Type 0 where
  pub yes : at < length c.yes
  pub no : at < length c.no

-- the column has these terms at the place, too
pub record IsPosted (ts : List Scalar) (at : ℕ) (old new : Making) : Type 0 where
  pub texts : (w : List ℕ) → places_so_far new.texts w ≡ with_if (has ts (text w)) at (places_so_far old.texts w)
  pub longs : (z : ℤ) → places_so_far_long new.longs z ≡ with_if (has ts (long z)) at (places_so_far_long old.longs z)
  pub yes : new.yes ≡ set_if (has ts (flag true)) at old.yes
  pub no : new.no ≡ set_if (has ts (flag false)) at old.no
  pub has : new.has ≡ old.has

-- nothing of n documents
pub record IsEmptyMaking (n : ℕ) (c : Making) : Type 0 where
  pub has : c.has ≡ replicate n false
  pub texts : (w : List ℕ) → places_so_far c.texts w ≡ []
  pub longs : (z : ℤ) → places_so_far_long c.longs z ≡ []
  pub yes : c.yes ≡ replicate n false
  pub no : c.no ≡ replicate n false

-- the column of n documents that one in the making is
pub record IsFinished (n : ℕ) (m : Making) (c : Column) : Type 0 where
  pub has : c.has ≡ m.has
  pub texts : (w : List ℕ) → places_at c.texts w ≡ places_so_far m.texts w
  pub longs : (z : ℤ) → places_at_long c.longs z ≡ places_so_far_long m.longs z
  pub blocks : AreBlocks n c.longs c.blocks.items
  pub yes : c.yes ≡ m.yes
  pub no : c.no ≡ m.no
