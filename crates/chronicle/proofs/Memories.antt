-- What memory has once one more comes.
use Rattle.std.proofs.Common.{◌≡◌, List, [], ◌∷◌, ◌++◌, length, refl, arith}
use Rattle.std.proofs.lemmas.List.{length_push}
use Rattle.std.specs.Prelude.{Some, slice_get}
use Rattle.chronicle.specs.declared.ledger.Memory.TheVariants.{Last}
use Rattle.chronicle.specs.Memory.{IsOf}

last_there : {E : Type 0} (es : List E) (e : E) → slice_get (es ++ e ∷ []) (length es) ≡ Some e
last_there [] e = refl
last_there (d ∷ es) e = last_there es e

pub last_of : {E : Type 0} (es : List E) (e : E) → IsOf (es ++ e ∷ []) (Last (Some e))
last_of es e = (length es, omega (arith, length_push es e), last_there es e)
