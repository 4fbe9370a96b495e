-- Operations that are there, and the last on an id.
use Rattle.std.proofs.Common.{◌≡◌, ◌<◌, ℕ, Bool, true, false, List, [], ◌∷◌, Option, Some, None, if◌then◌else◌, refl, sym, ap, ◌∙◌, arith}
use Rattle.std.specs.Prelude.{◌==◌, IfSome}
use Rattle.std.specs.List.{AllByRecursion}
use Rattle.std.specs.Option.{option_or}
use Rattle.std.proofs.lemmas.Bool.Decides.{nat_tests}
use Rattle.doc.specs.Id.{Id}
use Rattle.op.specs.declared.operation.Op.{Op}
use Rattle.op.specs.Operations.{add, is_on, last_on, op_at, IsAscending}
use Rattle.op.proofs.OperationLaws.{op_at-add}
use Rattle.promises.specs.Promises.{HasWrite}

equals : (n : ℕ) → (n == n) ≡ true
equals n = grind (arith, nat_tests)

-- what is there holds what all hold
pub at_has : (P : Op → Type 0) (os : List Op) (n : ℕ) (p : Op) → op_at os n ≡ Some p → AllByRecursion P os → P p
at_has P [] n p e all = absurd cc
at_has P (o ∷ os) n p e all = (elim (o.seq == n) as (λ b. (if b then Some o else op_at os n) ≡ Some p → P p) [
  | true ↦ λ h. let same : p ≡ o = cc in rw same all.0
  | false ↦ λ h. at_has P os n p h all.1
]) e

-- one whose number is free is there once it is added
pub is_added : (os : List Op) (o : Op) → op_at os o.seq ≡ None → op_at (add os o) o.seq ≡ Some o
is_added os o none = op_at-add os o o.seq none ∙ ap (λ b. if b then Some o else op_at os o.seq) (equals o.seq)

-- the last on an id comes behind what is there before it
last_above : (n : ℕ) (os : List Op) (id : Id) → AllByRecursion (λ p. n < p.seq) os → IfSome (last_on os id) (λ q. n < q.seq)
last_above n [] id all = tt
last_above n (o ∷ os) id all = (elim (last_on os id) as (λ l. IfSome l (λ q. n < q.seq) → IfSome (option_or l (if is_on id o then Some o else None)) (λ q. n < q.seq)) [
  | Some q ↦ λ h. h
  | None ↦ λ h. (elim (is_on id o) as (λ b. IfSome (if b then Some o else None) (λ q. n < q.seq)) [ true ↦ all.0 | false ↦ tt ])
]) (last_above n os id all.1)

-- an operation that is there is the last on its id, or there is one with a greater number
pub has_write : (os : List Op) (id : Id) (p : Op) → IsAscending os → op_at os p.seq ≡ Some p → is_on id p ≡ true → HasWrite id p.seq os
has_write [] id p up e on = absurd cc
has_write (o ∷ os) id p up e on = (elim (o.seq == p.seq) as (λ b. (if b then Some o else op_at os p.seq) ≡ Some p → HasWrite id p.seq (o ∷ os)) [ true ↦ here | false ↦ λ h. behind (has_write os id p up.1 h on) ]) e
  where
    first : (l : Option Op) → last_on os id ≡ l → IfSome l (λ q. p.seq < q.seq) → o ≡ p → HasWrite id p.seq (o ∷ os)
    first (Some q) is above same = record { last = q; is_last = rw is refl; not_older = omega (arith, above) }
    first None is above same = record { last = p; is_last = rw (is, same, on) refl; not_older = omega arith }

    here : (let x : Option Op = Some o in x) ≡ Some p → HasWrite id p.seq (o ∷ os)
    here h =
        let same : o ≡ p = cc in
        first (last_on os id) refl (last_above p.seq os id (rw (sym same) up.0)) same

    behind : HasWrite id p.seq os → HasWrite id p.seq (o ∷ os)
    behind one = record { last = one.last; is_last = rw one.is_last refl; not_older = one.not_older }
