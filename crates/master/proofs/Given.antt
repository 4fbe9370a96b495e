-- How many ids were given.
use Rattle.std.proofs.Common.{◌≡◌, ◌-◌, ℕ, zero, suc, ◌∷◌, [], length, length-append, refl, ◌∙◌, arith}
use Rattle.op.specs.Ids.{ids_up_to, ids_below}

length-ids_up_to : (n : ℕ) → length (ids_up_to n) ≡ n
length-ids_up_to zero = refl
length-ids_up_to (suc n) = length-append (ids_up_to n) (suc n ∷ []) ∙ omega (arith, length-ids_up_to n)

pub length-ids_below : (n : ℕ) → length (ids_below n) ≡ n - 1
length-ids_below zero = refl
length-ids_below (suc n) = length-ids_up_to n ∙ omega arith
