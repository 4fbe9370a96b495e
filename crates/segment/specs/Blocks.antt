-- The numbers of a column in blocks.
-- For proofs alone: no public contract rests on it.
use Rattle.std.specs.Prelude.{◌≡◌, ◌<◌, ◌≤ℤ◌, ℕ, ℤ, Bool, false, List, length, map, filter, replicate, All}
use Rattle.std.specs.BTreeMap.{BTreeMap, IsOrdered}
use Rattle.std.specs.List.{flat_map}
use Rattle.std.specs.Ordering.{int_cmp}
use Rattle.marks.specs.Lists.{marked}
use Rattle.segment.specs.Places.{as_list}
use Rattle.segment.specs.declared.places.Places.{Places}
use Rattle.segment.specs.declared.blocks.Block.{Block}
use Rattle.segment.specs.declared.blocks.Number.{Number}

-- a number with each of its places
abbrev pub numbered : ℤ → List ℕ → List Number
numbered z ps = map (λ p. record { value = z; place = p }) ps

-- the numbers of a dictionary, each with each of its places
abbrev pub listed : List (ℤ × Places) → List Number
listed es = flat_map (λ e. numbered e.0 (as_list e.1)) es

-- the numbers of blocks
abbrev pub numbers_of : List Block → List Number
numbers_of bs = flat_map (λ b. b.numbers.items) bs

-- the places of the numbers
abbrev pub places_of : List Number → List ℕ
places_of ns = map (λ n. n.place) ns

-- the places of the numbers that pass
abbrev pub hits : (ℤ → Bool) → List Number → List ℕ
hits q ns = places_of (filter (λ n. q n.value) ns)

-- a block of n documents: its numbers lie between two, and its marks are at their places
pub record IsBlock (n : ℕ) (b : Block) : Type 0 where
  pub first : All (λ k. b.first ≤ℤ k.value) b.numbers.items
  pub last : All (λ k. k.value ≤ℤ b.last) b.numbers.items
  pub there : All (λ k. k.place < n) b.numbers.items
  pub marks : b.marks ≡ marked (replicate n false) (places_of b.numbers.items)

-- blocks of n documents, if there are any, have the numbers of the dictionary
pub record AreBlocks (n : ℕ) (longs : BTreeMap ℤ Places) (bs : List Block) : Type 0 where
  pub each : All (IsBlock n) bs
  pub ordered : 0 < length bs → IsOrdered int_cmp longs
  pub all : 0 < length bs → numbers_of bs ≡ listed longs.entries
