-- A checkpoint is the number of the last operation below which none is missing, or -1. Definitions count those operations instead.
use Rattle.std.specs.Prelude.{ℕ, ℤ, pos, negsuc, suc, zero}

-- how many operations a checkpoint counts: the number and one more
abbrev pub known : ℤ → ℕ
known (pos n) = suc n
known (negsuc n) = 0

-- the checkpoint that counts n operations: n minus one
abbrev pub checkpoint_of : ℕ → ℤ
checkpoint_of zero = negsuc 0
checkpoint_of (suc n) = pos n
