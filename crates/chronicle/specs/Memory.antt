-- What memory has of a ledger.
use Rattle.std.specs.Prelude.{◌≡◌, ℕ, ◌<◌, ◌+◌, Bool, true, false, List, [], length, Option, Some, None, slice_get, vec_len, vec_capacity}
use Rattle.chronicle.specs.Written.{Written}
use Rattle.chronicle.specs.declared.ledger.Memory.{Memory}
use Rattle.chronicle.specs.declared.ledger.Memory.TheVariants.{All, Last}

module _ {E : Type 0} where
  -- whether it has all entries
  abbrev pub is_all : Memory E → Bool
  is_all (All entries) = true
  is_all (Last last) = false

  -- it is of these entries: has all, or the last where there is one
  abbrev pub IsOf : List E → Memory E → Type 0
  IsOf entries (All all) = all.items ≡ entries
  IsOf entries (Last None) = entries ≡ []
  IsOf entries (Last (Some last)) = (place : ℕ) × (place + 1 ≡ length entries) × (slice_get entries place ≡ Some last)

  -- it takes one more without a new place
  abbrev pub HasRoom : Memory E → Type 0
  HasRoom (All all) = vec_len all < vec_capacity all
  HasRoom (Last last) = Unit {0}

  -- the mark of all that was written; none where nothing was
  abbrev pub IsMarked : Written E → Option (Written E) → Type 0
  IsMarked w None = w.entries ≡ []
  IsMarked w (Some mark) = mark ≡ w
