-- A resync that leaves all operations as they are.
use Rattle.std.proofs.Common.{◌≡◌, ◌≤◌, ◌<◌, ◌-◌, ℕ, ℤ, zero, suc, length, get_or, List, [], ◌∷◌, ◌++◌, append-nil, take, drop, refl, sym, ap, subst, ◌∙◌, arith}
use Rattle.std.specs.List.{AllByRecursion}
use Rattle.std.specs.Prelude.{nat_lt}
use Rattle.std.proofs.lemmas.Bool.Decides.{nat_tests}
use Rattle.std.proofs.lemmas.List.{take-append-drop}
use Rattle.std.proofs.lemmas.List.Elements.{filter-append}
use Rattle.op.specs.declared.operation.Op.{Op}
use Rattle.op.specs.declared.record.Record.{Record}
use Rattle.op.specs.declared.record.Record.TheVariants.{Resync}
use Rattle.op.specs.Checkpoint.{known}
use Rattle.op.specs.Operations.{IsAscending, below, next_seq}
use Rattle.op.specs.Records.{IsRecord, RunsFrom}
use Rattle.op.proofs.OperationLaws.{next_seq-above}
use Rattle.engine.proofs.KeptLaws.{next_seq-last, weaker}

all_below : (n : ℕ) (os : List Op) → AllByRecursion (λ o. o.seq < n) os → below n os ≡ os
all_below n [] all = refl
all_below n (o ∷ os) all = let h : o.seq < n = all.0 in grind (arith, nat_tests, all_below n os all.1)

-- where the last number is below n, each is
pub below-last : (n : ℕ) (os : List Op) (o : Op) → IsAscending os → 0 < length os → o ≡ get_or os (length os - 1) o → o.seq < n → below n os ≡ os
below-last n os o up some is lt = all_below n os (weaker (next_seq os) n os (omega (arith, lt, next_seq-last os o some is)) (next_seq-above os up))

-- numbers from n on aren't below n
none_below : (n m : ℕ) (os : List Op) → n ≤ m → RunsFrom m os → below n os ≡ []
none_below n m [] le runs = refl
none_below n m (o ∷ os) le runs = let h : o.seq ≡ m = runs.0 in grind (arith, nat_tests, none_below n (suc m) os (omega (arith, le)) runs.1)

-- where the first are below n and the others are those that come, all stay
pub stays : (n k : ℕ) (os tail : List Op) → RunsFrom n tail → below n (take k os) ≡ take k os → drop k os ≡ tail → below n os ++ tail ≡ os
stays n k os tail runs first rest =
    let cut : below n os ≡ take k os =
    ap (below n) (sym (take-append-drop k os))
    ∙ filter-append (λ (o : Op). nat_lt o.seq n) (take k os) (drop k os)
    ∙ ap (λ (ps : List Op). ps ++ below n (drop k os)) first
    ∙ ap (λ (ps : List Op). take k os ++ below n ps) rest
    ∙ ap (λ (ps : List Op). take k os ++ ps) (none_below n n tail (omega arith) runs)
    ∙ append-nil (take k os) in
    ap (λ (ps : List Op). ps ++ tail) cut ∙ ap (λ (ps : List Op). take k os ++ ps) (sym rest) ∙ take-append-drop k os

-- the first are sorted as all are
pub IsAscending-take : (k : ℕ) (os : List Op) → IsAscending os → IsAscending (take k os)
IsAscending-take zero os up = tt
IsAscending-take (suc k) [] up = tt
IsAscending-take (suc k) (o ∷ os) up = (All-take (λ p. o.seq < p.seq) k os up.0, IsAscending-take k os up.1)
  where
    All-take : (P : Op → Type 0) (k : ℕ) (ps : List Op) → AllByRecursion P ps → AllByRecursion P (take k ps)
    All-take P zero ps all = tt
    All-take P (suc k) [] all = tt
    All-take P (suc k) (p ∷ ps) all = (all.0, All-take P k ps all.1)

-- the operations of a resync run on from its checkpoint
pub runs_on : (r : Record) (term n : ℕ) (g : ℤ) (tail : List Op) → IsRecord r → r ≡ Resync term g tail → n ≡ known g → RunsFrom n tail
runs_on r term n g tail is same counted =
    let resync : IsRecord (Resync term g tail) = subst IsRecord same is in
    subst (λ m. RunsFrom m tail) (sym counted) resync.2.runs
