-- A window of 1,024 bits in sixteen words: the bit of a number stands at the number modulo 1,024.
-- For proofs alone: no public contract rests on it.
use Rattle.std.specs.Prelude.{◌≡◌, ◌≤◌, ◌<◌, ◌+◌, ◌^◌, ◌/◌, ◌%◌, ℕ, zero, suc, Bool, false, List, [], ◌∷◌, ◌++◌, slice_index, nat_eq, if◌then◌else◌}
use Rattle.std.specs.Int.{bit_at}
use Rattle.checkpoint.specs.Numbers.{up_to}

-- 1 where the number's bit is set, else 0
abbrev pub bit_of : List ℕ → ℕ → ℕ
bit_of words n = bit_at (slice_index words (n / 64 % 16)) (n % 64)

-- whether the number's bit is set
abbrev pub is_marked : List ℕ → ℕ → Bool
is_marked words n = nat_eq (bit_of words n) 1

-- those numbers that are marked, of so many from the first on
unfoldable pub marked_from : (ℕ → Bool) → ℕ → ℕ → List ℕ
marked_from f first zero = []
marked_from f first (suc len) = if f first then first ∷ marked_from f (suc first) len else marked_from f (suc first) len

-- all numbers below the count, and those of the window above it that are marked
unfoldable pub numbers_of : ℕ → List ℕ → List ℕ
numbers_of count words = up_to count ++ marked_from (is_marked words) count 1024

-- the first number of the window isn't marked, and all numbers are at most 9,223,372,036,854,775,807
pub record IsWindow (count : ℕ) (words : List ℕ) : Type 0 where
  pub gap : is_marked words count ≡ false
  pub small : count ≤ 2 ^ 63
  pub signed : (k : ℕ) → 2 ^ 63 ≤ k → k < count + 1024 → is_marked words k ≡ false
