-- The characters that may stand around a word and are seen at once to be no part of it.
-- For proofs alone: no public contract rests on it.
use Rattle.std.specs.Prelude.{ℕ, Bool, not, ◌&&◌, ◌==◌, nat_lt}
use Rattle.std.specs.Char.{is_ascii_alphanumeric}

-- an ASCII character that is no letter, digit, underscore or space
abbrev pub is_delimiter : ℕ → Bool
is_delimiter c = nat_lt c 128 && not (is_ascii_alphanumeric c) && not (c == 95) && not (c == 32)
