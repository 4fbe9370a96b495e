-- Registers after bytes in pieces.
use Rattle.std.proofs.Common.{◌≡◌, ℕ, List, [], ◌∷◌, ◌++◌, refl}
use Rattle.sum.specs.Crc.{after_byte, register_after}

pub joined : (register : ℕ) (front back : List ℕ) → register_after register (front ++ back) ≡ register_after (register_after register front) back
joined register [] back = refl
joined register (b ∷ front) back = joined (after_byte register b) front back
