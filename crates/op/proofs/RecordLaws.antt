-- The operations after one more record, and those up to a point.
use Rattle.std.proofs.Common.{◌≡◌, ℕ, ℤ, suc, true, false, if◌then◌else◌, List, [], ◌∷◌, ◌++◌, length, ◌<◌, ◌≤◌, refl, ap, arith}
use Rattle.std.specs.Prelude.{nat_lt}
use Rattle.std.specs.List.{AllByRecursion}
use Rattle.std.proofs.lemmas.Bool.Decides.{nat_tests}
use Rattle.std.proofs.lemmas.Grind.{fold-append}
use Rattle.std.proofs.lemmas.List.{take-append-le}
use Rattle.std.proofs.Math.Seq.{take-length}
use Rattle.op.specs.declared.operation.Op.{Op}
use Rattle.op.specs.declared.record.Record.{Record}
use Rattle.op.specs.declared.record.Record.TheVariants.{Op as Kept, Resync, Recover}
use Rattle.op.specs.Checkpoint.{known}
use Rattle.std.specs.Prelude.{fold}
use Rattle.op.specs.Operations.{add, below, IsAscending}
use Rattle.op.proofs.OperationLaws.{IsAscending-add}
use Rattle.op.specs.Records.{after_record, operations, shown, RunsFrom, IsRecord}

pub operations-push : (rs : List Record) (r : Record) → operations (rs ++ r ∷ []) ≡ after_record (operations rs) r
operations-push rs r = fold-append after_record [] rs (r ∷ [])

pub operations-Op : (rs : List Record) (g : ℤ) (o : Op) → operations (rs ++ Kept g o ∷ []) ≡ add (operations rs) o
operations-Op rs g o = operations-push rs (Kept g o)

pub operations-Resync : (rs : List Record) (term : ℕ) (g : ℤ) (tail : List Op) → operations (rs ++ Resync term g tail ∷ []) ≡ below (known g) (operations rs) ++ tail
operations-Resync rs term g tail = operations-push rs (Resync term g tail)

pub operations-Recover : (rs : List Record) (term : ℕ) (all : List Op) → operations (rs ++ Recover term all ∷ []) ≡ all
operations-Recover rs term all = operations-push rs (Recover term all)

-- a record more leaves what is shown
pub shown-push : (rs : List Record) (r : Record) (point : ℕ) → point ≤ length rs → shown (rs ++ r ∷ []) point ≡ shown rs point
shown-push rs r point le = ap operations (take-append-le point rs (r ∷ []) le)

-- at the end all is shown
pub shown-all : (rs : List Record) → shown rs (length rs) ≡ operations rs
shown-all rs = ap operations (take-length rs)

-- numbers without a gap rise
runs_above : (m n : ℕ) (os : List Op) → m < n → RunsFrom n os → AllByRecursion (λ p. m < p.seq) os
runs_above m n [] lt runs = tt
runs_above m n (o ∷ os) lt runs = (let h : o.seq ≡ n = runs.0 in omega arith, runs_above m (suc n) os (omega arith) runs.1)

pub IsAscending-runs : (n : ℕ) (os : List Op) → RunsFrom n os → IsAscending os
IsAscending-runs n [] runs = tt
IsAscending-runs n (o ∷ os) runs = (runs_above o.seq (suc n) os (let h : o.seq ≡ n = runs.0 in omega arith) runs.1, IsAscending-runs (suc n) os runs.1)

pub All-both : (P : Op → Type 0) (xs ys : List Op) → AllByRecursion P xs → AllByRecursion P ys → AllByRecursion P (xs ++ ys)
All-both P [] ys all other = other
All-both P (x ∷ xs) ys all other = (all.0, All-both P xs ys all.1 other)

pub All-below : (P : Op → Type 0) (n : ℕ) (os : List Op) → AllByRecursion P os → AllByRecursion P (below n os)
All-below P n [] all = tt
All-below P n (o ∷ os) all = elim (nat_lt o.seq n) as (λ b. AllByRecursion P (if b then o ∷ below n os else below n os)) [ true ↦ (all.0, All-below P n os all.1) | false ↦ All-below P n os all.1 ]

-- what is below n, and then numbers from n on
pub IsAscending-below : (n : ℕ) (os tail : List Op) → IsAscending os → RunsFrom n tail → IsAscending (below n os ++ tail)
IsAscending-below n [] tail up runs = IsAscending-runs n tail runs
IsAscending-below n (o ∷ os) tail up runs =
    let rest = IsAscending-below n os tail up.1 runs in
    elim (nat_lt o.seq n) as (λ b. nat_lt o.seq n ≡ b → IsAscending ((if b then o ∷ below n os else below n os) ++ tail)) [
      | true ↦ λ is. (All-both _ (below n os) tail (All-below _ n os up.0) (runs_above o.seq n tail (grind (arith, nat_tests)) runs), rest)
      | false ↦ λ is. rest
    ] refl

pub IsAscending-after : (os : List Op) (r : Record) → IsAscending os → IsRecord r → IsAscending (after_record os r)
IsAscending-after os (Kept g o) up is = IsAscending-add os o up
IsAscending-after os (Resync term g tail) up is = IsAscending-below (known g) os tail up is.2.runs
IsAscending-after os (Recover term all) up is = IsAscending-runs 0 all is.1.runs

IsAscending-fold : (rs : List Record) (os : List Op) → IsAscending os → AllByRecursion IsRecord rs → IsAscending (fold after_record os rs)
IsAscending-fold [] os up all = up
IsAscending-fold (r ∷ rs) os up all = IsAscending-fold rs (after_record os r) (IsAscending-after os r up all.0) all.1

-- the operations of records stand in order of their numbers
pub IsAscending-operations : (rs : List Record) → AllByRecursion IsRecord rs → IsAscending (operations rs)
IsAscending-operations rs all = IsAscending-fold rs [] tt all
