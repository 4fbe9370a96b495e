-- Checkpoints and what they count.
use Rattle.std.proofs.Common.{◌≡◌, ℕ, zero, suc, refl}
use Rattle.op.specs.Checkpoint.{known, checkpoint_of}

pub known-checkpoint_of : (n : ℕ) → known (checkpoint_of n) ≡ n
known-checkpoint_of zero = refl
known-checkpoint_of (suc n) = refl
