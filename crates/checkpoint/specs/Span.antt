-- Seventeen words of 64 bits, one for each block of 64 numbers: the word of a block stands at the block modulo 17.
-- For proofs alone: no public contract rests on it.
use Rattle.std.specs.Prelude.{◌-◌, ◌*◌, ◌/◌, ◌%◌, ℕ, Bool, List, nat_eq, slice_index}
use Rattle.std.specs.Int.{bit_at}
use Rattle.checkpoint.specs.Window.{marked_from}

-- whether a bit of a word is set
abbrev pub is_set : ℕ → ℕ → Bool
is_set word i = nat_eq (bit_at word i) 1

-- whether a number's bit is set, in a word whose bits begin with that of another
abbrev pub is_set_from : ℕ → ℕ → ℕ → Bool
is_set_from word start n = is_set word (n - start)

-- whether the number's bit is set
abbrev pub is_spanned : List ℕ → ℕ → Bool
is_spanned words n = is_set (slice_index words (n / 64 % 17)) (n % 64)

-- the numbers of seventeen blocks from the first on whose bits are set
unfoldable pub span_of : ℕ → List ℕ → List ℕ
span_of first words = marked_from (is_spanned words) (first * 64) 1088
