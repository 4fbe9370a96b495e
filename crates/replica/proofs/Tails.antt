-- What a new primary begins with: its operations, the gaps above its checkpoint filled.
use Rattle.std.proofs.Common.{◌≡◌, ℕ, zero, suc, ◌+◌, ◌-◌, ◌<◌, ◌≤◌, true, false, List, [], ◌∷◌, ◌++◌, if◌then◌else◌, Option, Some, None, length, refl, sym, ap, ◌∙◌, append_assoc, arith, length-append}
use Rattle.std.specs.Prelude.{◌==◌, ◌&&◌, nat_lt, nat_le, map, filter, unwrap_or}
use Rattle.std.proofs.lemmas.Bool.Decides.{nat_tests}
use Rattle.std.proofs.lemmas.List.{append-nil, map-append}
use Rattle.std.proofs.lemmas.List.Elements.{filter-append}
use Rattle.op.specs.declared.operation.Op.{Op}
use Rattle.std.specs.List.{AllByRecursion}
use Rattle.op.specs.Operations.{IsAscending, below, op_at, next_seq}
use Rattle.op.specs.Records.{RunsFrom}
use Rattle.replica.specs.Copy.{Copy, operations}
use Rattle.checkpoint.specs.Numbers.{up_to}
use Rattle.replica.specs.Step.{no_op, tail_of}
use Rattle.op.proofs.OperationLaws.{next_seq-above, next_seq-push, op_at-append}

-- the operation at a number has that number
pub op_at-seq : (os : List Op) (n : ℕ) (o : Op) → op_at os n ≡ Some o → o.seq ≡ n
op_at-seq [] n o e = absurd cc
op_at-seq (p ∷ ps) n o e = (elim (p.seq == n) as (λ b. (p.seq == n) ≡ b → (if b then Some p else op_at ps n) ≡ Some o → o.seq ≡ n) [
  | true ↦ λ is h. let same : p ≡ o = cc in ap (λ (x : Op). x.seq) (sym same) ∙ grind (arith, nat_tests)
  | false ↦ λ is h. op_at-seq ps n o h
]) refl e

RunsFrom-push : (n : ℕ) (os : List Op) (o : Op) → RunsFrom n os → o.seq ≡ n + length os → RunsFrom n (os ++ o ∷ [])
RunsFrom-push n [] o runs e = (omega arith, tt)
RunsFrom-push n (p ∷ ps) o runs e = (runs.0, RunsFrom-push (suc n) ps o runs.1 (omega arith))

-- what is below a number, where all are
all_below : (n k : ℕ) (os : List Op) → n ≤ k → AllByRecursion (λ o. o.seq < n) os → below k os ≡ os
all_below n k [] le all = refl
all_below n k (o ∷ os) le all = let lt : o.seq < n = all.0 in let under : nat_lt o.seq k ≡ true = grind (arith, nat_tests) in rw (under, all_below n k os le all.1) refl

module _ (f : ℕ → Op) (numbered : (n : ℕ) → (f n).seq ≡ n) where
  abbrev pub numbers : ℕ → ℕ → List Op
  numbers k n = map f (filter (λ m. nat_le k m) (up_to n))

  pub more : (k n : ℕ) → numbers k (suc n) ≡ numbers k n ++ (if nat_le k n then f n ∷ [] else [])
  more k n = ap (map f) (filter-append (λ m. nat_le k m) (up_to n) (n ∷ [])) ∙ map-append f (filter (λ m. nat_le k m) (up_to n)) (filter (λ m. nat_le k m) (n ∷ []))
      ∙ elim (nat_le k n) as (λ b. numbers k n ++ map f (if b then n ∷ [] else []) ≡ numbers k n ++ (if b then f n ∷ [] else [])) [ true ↦ refl | false ↦ refl ]

  counts : (k n : ℕ) → length (numbers k n) ≡ n - k
  counts k zero = omega arith
  counts k (suc n) = rw (more k n) ((elim (nat_le k n) as (λ b. nat_le k n ≡ b → length (numbers k n ++ (if b then f n ∷ [] else [])) ≡ suc n - k) [
    | true ↦ λ is. let le : k ≤ n = grind (arith, nat_tests) in rw (length-append (numbers k n) (f n ∷ [])) (omega (arith, counts k n))
    | false ↦ λ is. let lt : n < k = grind (arith, nat_tests) in rw (append-nil (numbers k n)) (omega (arith, counts k n))
  ]) refl)

  runs : (k n : ℕ) → RunsFrom k (numbers k n)
  runs k zero = tt
  runs k (suc n) = rw (more k n) ((elim (nat_le k n) as (λ b. nat_le k n ≡ b → RunsFrom k (numbers k n ++ (if b then f n ∷ [] else []))) [
    | true ↦ λ is. let le : k ≤ n = grind (arith, nat_tests) in RunsFrom-push k (numbers k n) (f n) (runs k n) (omega (arith, counts k n, numbered n))
    | false ↦ λ is. rw (append-nil (numbers k n)) (runs k n)
  ]) refl)

  op_at-numbers : (k n m : ℕ) → op_at (numbers k n) m ≡ (if nat_le k m && nat_lt m n then Some (f m) else None)
  op_at-numbers k zero m = grind (arith, nat_tests)
  op_at-numbers k (suc n) m = rw (more k n) ((elim (nat_le k n) as (λ b. nat_le k n ≡ b → op_at (numbers k n ++ (if b then f n ∷ [] else [])) m ≡ (if nat_le k m && nat_lt m (suc n) then Some (f m) else None)) [
    | true ↦ λ is. grind (arith, nat_tests, op_at-append (numbers k n) (f n ∷ []) m, op_at-numbers k n m, numbered n, is)
    | false ↦ λ is. rw (append-nil (numbers k n)) (grind (arith, nat_tests, op_at-numbers k n m, is))
  ]) refl)

  -- none from a number on that none of them reaches
  pub none_from : (k n : ℕ) → n ≤ k → numbers k n ≡ []
  none_from k zero le = refl
  none_from k (suc n) le = let out : nat_le k n ≡ false = grind (arith, nat_tests) in rw (more k n, none_from k n (omega arith), out) refl

  -- the greatest number stays
  next_seq-numbers : (os : List Op) (k n : ℕ) → AllByRecursion (λ o. o.seq < n) os → next_seq os ≡ n → next_seq (below k os ++ numbers k n) ≡ n
  next_seq-numbers os k zero all is = rw (all_below zero k os (omega arith) all, append-nil os) is
  next_seq-numbers os k (suc m) all is = (elim (nat_le k m) as (λ b. nat_le k m ≡ b → next_seq (below k os ++ numbers k (suc m)) ≡ suc m) [
    | true ↦ λ in_it.
        let last : below k os ++ numbers k (suc m) ≡ (below k os ++ numbers k m) ++ f m ∷ [] = rw (more k m, in_it) (sym (append_assoc (below k os) (numbers k m) (f m ∷ []))) in
        rw last (next_seq-push (below k os ++ numbers k m) (f m) ∙ ap suc (numbered m))
    | false ↦ λ out. let le : suc m ≤ k = grind (arith, nat_tests) in rw (none_from k (suc m) le, all_below (suc m) k os le all, append-nil os) is
  ]) refl

module _ (os : List Op) (term : ℕ) where
  abbrev pub filled : ℕ → Op
  filled n = unwrap_or (op_at os n) (no_op term n)

  numbered_at : (n : ℕ) (q : Option Op) → op_at os n ≡ q → (unwrap_or q (no_op term n)).seq ≡ n
  numbered_at n None e = refl
  numbered_at n (Some o) e = op_at-seq os n o e

  pub numbered : (n : ℕ) → (filled n).seq ≡ n
  numbered n = numbered_at n (op_at os n) refl

-- the tail runs from the checkpoint on
pub RunsFrom-tail : (c : Copy) (term : ℕ) → RunsFrom c.known (tail_of c term)
RunsFrom-tail c term = runs (filled (operations c) term) (numbered (operations c) term) c.known (next_seq (operations c))

-- and has each number up to the greatest: the operation that is there, or a gap's
pub op_at-tail : (c : Copy) (term n : ℕ) → op_at (tail_of c term) n ≡ (if nat_le c.known n && nat_lt n (next_seq (operations c)) then Some (unwrap_or (op_at (operations c) n) (no_op term n)) else None)
op_at-tail c term n = op_at-numbers (filled (operations c) term) (numbered (operations c) term) c.known (next_seq (operations c)) n

-- the greatest number is the old one
pub next_seq-tail : (c : Copy) (term : ℕ) → IsAscending (operations c) → next_seq (below c.known (operations c) ++ tail_of c term) ≡ next_seq (operations c)
next_seq-tail c term up = next_seq-numbers (filled (operations c) term) (numbered (operations c) term) (operations c) c.known (next_seq (operations c)) (next_seq-above (operations c) up) refl
