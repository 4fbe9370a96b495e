-- How far the numbers go on without a gap, after one more record.
use Rattle.std.proofs.Common.{◌≡◌, ℕ, ◌+◌, ◌-◌, zero, suc, length, drop, ◌<◌, ◌≤◌, ◌^◌, Bool, true, false, List, [], ◌∷◌, ◌++◌, if◌then◌else◌, Some, None, refl, sym, ap, subst, ◌∙◌, arith}
use Rattle.std.specs.Prelude.{◌==◌, nat_lt}
use Rattle.std.specs.List.{AllByRecursion}
use Rattle.std.proofs.lemmas.Bool.Decides.{nat_tests}
use Rattle.op.specs.declared.operation.Op.{Op}
use Rattle.op.specs.Operations.{IsAscending, op_at, placed, add, below, local_count, reached}
use Rattle.op.specs.Records.{IsUpTo, RunsFrom}
use Rattle.op.proofs.OperationLaws.{add-free, reached-le}

-- all numbers are at least n
abbrev AreFrom : ℕ → List Op → Type 0
AreFrom n os = AllByRecursion (λ p. n ≤ p.seq) os

from_zero : (os : List Op) → AreFrom 0 os
from_zero [] = tt
from_zero (o ∷ os) = (omega arith, from_zero os)

from_next : (m n : ℕ) (os : List Op) → n ≡ suc m → AllByRecursion (λ p. m < p.seq) os → AreFrom n os
from_next m n [] e all = tt
from_next m n (p ∷ ps) e all = (let h : m < p.seq = all.0 in omega arith, from_next m n ps e all.1)

-- they reach no further than there are operations
pub reached-length : (n : ℕ) (os : List Op) → reached n os ≤ n + length os
reached-length n [] = omega arith
reached-length n (o ∷ os) = grind (arith, nat_tests, reached-length (suc n) os)

-- ---- an operation more

-- how far they go on with one more operation
abbrev reached_with : ℕ → List Op → Op → ℕ
reached_with n os o = if o.seq == reached n os then reached (suc o.seq) (drop (reached n os - n) os) else reached n os

pub drop_one : (n k : ℕ) (p : Op) (ps : List Op) → suc n ≤ k → drop (k - n) (p ∷ ps) ≡ drop (k - suc n) ps
drop_one n k p ps le = let e : k - n ≡ suc (k - suc n) = omega arith in rw e refl

-- one more operation is reached where it stands at the end of those that were, and then those behind it are, too
reached-placed : (n : ℕ) (os : List Op) (o : Op) → IsAscending os → AreFrom n os → op_at os o.seq ≡ None → n ≤ o.seq →
    reached n (placed os o) ≡ reached_with n os o
reached-placed n [] o up all free le = grind (arith, nat_tests)
reached-placed n (p ∷ ps) o up all free le = (elim (nat_lt o.seq p.seq) as (λ b. nat_lt o.seq p.seq ≡ b → reached n (if b then o ∷ p ∷ ps else p ∷ placed ps o) ≡ reached_with n (p ∷ ps) o) [
  | true ↦ λ is. let apart : n < p.seq = grind (arith, nat_tests) in grind (arith, nat_tests)
  | false ↦ λ is. (elim (p.seq == n) as (λ b. (p.seq == n) ≡ b → reached n (p ∷ placed ps o) ≡ reached_with n (p ∷ ps) o) [
    | true ↦ λ same.
        let first : p.seq ≡ n = grind (arith, nat_tests) in
        let later : suc n ≤ o.seq = grind (arith, nat_tests) in
        let rest = reached-placed (suc n) ps o up.1 (from_next p.seq (suc n) ps (omega arith) up.0) (grind (arith, nat_tests)) later in
        rw (same, rest, drop_one n (reached (suc n) ps) p ps (reached-le (suc n) ps)) refl
    | false ↦ λ other. grind (arith, nat_tests)
  ]) refl
]) refl

pub local_count-add : (os : List Op) (o : Op) → IsAscending os → op_at os o.seq ≡ None →
    local_count (add os o) ≡ (if o.seq == local_count os then reached (suc (local_count os)) (drop (local_count os) os) else local_count os)
local_count-add os o up free = rw (add-free os o free) (grind (arith, nat_tests, reached-placed 0 os o up (from_zero os) free))

-- ---- a resync and a recovery

-- numbers without a gap are reached
pub reached-runs : (n : ℕ) (os : List Op) → RunsFrom n os → reached n os ≡ n + length os
reached-runs n [] runs = omega arith
reached-runs n (o ∷ os) runs = let same : o.seq ≡ n = runs.0 in grind (arith, nat_tests, reached-runs (suc n) os runs.1)

none_below : (k : ℕ) (os : List Op) → AreFrom k os → below k os ≡ []
none_below k [] all = refl
none_below k (p ∷ ps) all = let h : k ≤ p.seq = all.0 in grind (arith, nat_tests, none_below k ps all.1)

pub local_count-recovered : (os : List Op) → RunsFrom 0 os → local_count os ≡ length os
local_count-recovered os runs = reached-runs 0 os runs ∙ omega arith

-- they have no number above the greatest
pub runs-small : (term n : ℕ) (os : List Op) → n ≤ 2 ^ 63 → RunsFrom n os → AllByRecursion (IsUpTo term) os → n + length os ≤ 2 ^ 63
runs-small term n [] le runs each = omega arith
runs-small term n (o ∷ os) le runs each =
    let same : o.seq ≡ n = runs.0 in
    let small : o.seq < 2 ^ 63 = each.0.0.small_seq in
    let rest = runs-small term (suc n) os (omega arith) runs.1 each.1 in
    omega (arith, rest)

-- where the numbers reach up to k, a resync goes on from k
reached-resync : (n k : ℕ) (os tail : List Op) → IsAscending os → AreFrom n os → n ≤ k → k ≤ reached n os → RunsFrom k tail → reached n (below k os ++ tail) ≡ k + length tail
reached-resync n k [] tail up all le most runs = let same : n ≡ k = omega arith in rw same (reached-runs k tail runs)
reached-resync n k (p ∷ ps) tail up all le most runs = (elim (nat_lt n k) as (λ b. nat_lt n k ≡ b → reached n (below k (p ∷ ps) ++ tail) ≡ k + length tail) [
  | true ↦ λ is.
      let first : p.seq ≡ n = grind (arith, nat_tests) in
      let rest = reached-resync (suc n) k ps tail up.1 (from_next p.seq (suc n) ps (omega arith) up.0) (grind (arith, nat_tests)) (grind (arith, nat_tests)) runs in
      grind (arith, nat_tests, rest)
  | false ↦ λ is.
      let same : n ≡ k = grind (arith, nat_tests) in
      let from : AreFrom k (p ∷ ps) = subst (λ (m : ℕ). AreFrom m (p ∷ ps)) same all in
      rw (none_below k (p ∷ ps) from, same) (reached-runs k tail runs)
]) refl

pub local_count-resynced : (k : ℕ) (os tail : List Op) → IsAscending os → k ≤ local_count os → RunsFrom k tail → local_count (below k os ++ tail) ≡ k + length tail
local_count-resynced k os tail up most runs = reached-resync 0 k os tail up (from_zero os) (omega arith) most runs
