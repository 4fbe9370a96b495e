-- What is taken out of a queue.
use Rattle.std.proofs.Common.{◌≡◌, ◌+◌, ℕ, List, [], ◌∷◌, ◌++◌, drop, length, refl, sym, ap, arith}
use Rattle.std.specs.Prelude.{Option, Some, None, IfNone, IfSome, option_to_list}

pub first_taken : {P : Type 0} (o : Option P) (xs ys : List P) → xs ≡ option_to_list o ++ ys → IfSome o (λ p. xs ≡ p ∷ ys)
first_taken None xs ys e = tt
first_taken (Some p) xs ys e = e

pub none_taken : {P : Type 0} (o : Option P) (xs ys : List P) → xs ≡ option_to_list o ++ ys → ys ≡ drop 1 xs → IfNone o ((xs ≡ []) × (ys ≡ []))
none_taken None [] ys e rest = (refl, sym e)
none_taken None (x ∷ xs) ys e rest = absurd (omega (arith, ap length e, ap length rest))
none_taken (Some p) xs ys e rest = tt
