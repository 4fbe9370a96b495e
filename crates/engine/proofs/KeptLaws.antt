-- The operations kept beside the records stay theirs.
use Rattle.std.proofs.Common.{◌≡◌, ℕ, ℤ, suc, ◌<◌, ◌≤◌, ◌-◌, ◌^◌, length, get_or, List, [], ◌∷◌, ◌++◌, refl, sym, ap, subst, ◌∙◌, arith}
use Rattle.std.proofs.lemmas.List.{append-nil}
use Rattle.std.specs.List.{AllByRecursion}
use Rattle.op.specs.declared.operation.Op.{Op}
use Rattle.op.specs.declared.record.Record.{Record}
use Rattle.op.specs.declared.record.Record.TheVariants.{Op as Kept, Resync, Recover}
use Rattle.op.specs.Checkpoint.{known}
use Rattle.op.specs.Operations.{IsAscending, below, next_seq}
use Rattle.op.specs.Records.{after_record, IsRecord, IsUpTo}
use Rattle.op.proofs.OperationLaws.{next_seq-above, next_seq-add, next_seq-at}
use Rattle.op.proofs.RecordLaws.{operations-push, All-both, All-below, IsAscending-after}
use Rattle.engine.specs.Kept.{IsKept}

pub IsKept-nil : IsKept [] []
IsKept-nil = record { same = refl; ascending = tt; small = omega arith }

-- where each number is below n, the next one is at most n
next_seq-below : (n : ℕ) (os : List Op) → AllByRecursion (λ o. o.seq < n) os → next_seq os ≤ n
next_seq-below n [] all = omega arith
next_seq-below n (o ∷ []) all = let h : o.seq < n = all.0 in omega arith
next_seq-below n (o ∷ p ∷ ps) all = next_seq-below n (p ∷ ps) all.1

pub weaker : (m n : ℕ) (os : List Op) → m ≤ n → AllByRecursion (λ o. o.seq < m) os → AllByRecursion (λ o. o.seq < n) os
weaker m n [] le all = tt
weaker m n (o ∷ os) le all = (let h : o.seq < m = all.0 in omega arith, weaker m n os le all.1)

small_each : (term : ℕ) (os : List Op) → AllByRecursion (IsUpTo term) os → AllByRecursion (λ o. o.seq < 2 ^ 63) os
small_each term [] all = tt
small_each term (o ∷ os) all = (all.0.0.small_seq, small_each term os all.1)

-- the numbers after one record more
small_after : (os : List Op) (r : Record) → IsAscending os → next_seq os ≤ 2 ^ 63 → IsRecord r → next_seq (after_record os r) ≤ 2 ^ 63
small_after os (Kept g o) up small is = let seq : o.seq < 2 ^ 63 = is.1.small_seq in omega (arith, next_seq-add os o)
small_after os (Resync term g tail) up small is =
    let before = weaker (next_seq os) (2 ^ 63) os small (next_seq-above os up) in
    next_seq-below (2 ^ 63) (below (known g) os ++ tail) (All-both _ (below (known g) os) tail (All-below _ (known g) os before) (small_each term tail is.2.each))
small_after os (Recover term all) up small is = next_seq-below (2 ^ 63) all (small_each term all is.1.each)

-- one record more
pub IsKept-push : (os : List Op) (rs : List Record) (r : Record) → IsKept os rs → IsRecord r → IsKept (after_record os r) (rs ++ r ∷ [])
IsKept-push os rs r kept is = record {
  same = sym (operations-push rs r ∙ ap (λ x. after_record x r) (sym kept.same));
  ascending = IsAscending-after os r kept.ascending is;
  small = small_after os r kept.ascending kept.small is;
}

-- the last operation has the greatest number
pub next_seq-last : (os : List Op) (o : Op) → 0 < length os → o ≡ get_or os (length os - 1) o → next_seq os ≡ suc o.seq
next_seq-last os o some is = next_seq-at os (length os - 1) o (omega arith) ∙ ap (λ (p : Op). suc p.seq) (sym is)

-- what a resync leaves rises
pub IsAscending-resynced : (os ps all tail : List Op) (r : Record) (term n : ℕ) (g : ℤ) → IsAscending os → IsRecord r → r ≡ Resync term g tail → n ≡ known g → ps ≡ os → all ≡ below n ps ++ tail → IsAscending all
IsAscending-resynced os ps all tail r term n g up is same counted kept made =
    let after : IsAscending (after_record os (Resync term g tail)) = subst (λ (q : Record). IsAscending (after_record os q)) same (IsAscending-after os r up is) in
    subst IsAscending (sym (made ∙ ap (λ m. below m ps ++ tail) counted ∙ ap (λ qs. below (known g) qs ++ tail) kept)) after

-- all that came is handed out
pub handed-out : (before recent : List Record) → (before ++ []) ++ recent ≡ (before ++ recent) ++ []
handed-out before recent = ap (λ (rs : List Record). rs ++ recent) (append-nil before) ∙ sym (append-nil (before ++ recent))

pub none-there : (rs : List Record) → length rs ≡ 0 → rs ≡ []
none-there [] is = refl
none-there (r ∷ rs) is = absurd (omega (arith, is))
