-- What a list of operations has after one is added.
use Rattle.std.proofs.Common.{◌≡◌, ◌≢◌, ℕ, zero, suc, length, get_or, ◌<◌, ◌≤◌, Bool, true, false, List, [], ◌∷◌, ◌++◌, if◌then◌else◌, Option, Some, None, is_some, refl, ap, ◌∙◌, arith, max}
use Rattle.std.specs.Prelude.{◌==◌, nat_lt, nat_le, IfSome, not, ◌&&◌}
use Rattle.std.specs.List.{AllByRecursion}
use Rattle.std.specs.Option.{option_or}
use Rattle.std.proofs.lemmas.Bool.Decides.{nat_tests}
use Rattle.op.specs.declared.operation.Op.{Op}
use Rattle.op.specs.Operations.{IsAscending, op_at, placed, add, from_number, local_count, reached, is_on, last_on, is_newer, next_seq}
use Rattle.doc.specs.Id.{Id}

-- at a free number, the operation is there and each other number has what it had
pub op_at-placed : (os : List Op) (o : Op) (n : ℕ) → op_at os o.seq ≡ None → op_at (placed os o) n ≡ (if o.seq == n then Some o else op_at os n)
op_at-placed [] o n free = refl
op_at-placed (p ∷ ps) o n free = grind (arith, nat_tests, op_at-placed ps o n)

pub op_at-add : (os : List Op) (o : Op) (n : ℕ) → op_at os o.seq ≡ None → op_at (add os o) n ≡ (if o.seq == n then Some o else op_at os n)
op_at-add os o n free = grind (arith, nat_tests, op_at-placed os o n free)

-- an operation whose number is free is placed
pub add-free : (os : List Op) (o : Op) → op_at os o.seq ≡ None → add os o ≡ placed os o
add-free os o free = rw free refl

-- an operation whose number is there is not added
pub add-repeated : (os : List Op) (o q : Op) → op_at os o.seq ≡ Some q → add os o ≡ os
add-repeated os o q there = rw there refl

-- what holds of each, holds of each with the one placed
All-placed : (P : Op → Type 0) (os : List Op) (o : Op) → P o → AllByRecursion P os → AllByRecursion P (placed os o)
All-placed P [] o po all = (po, tt)
All-placed P (p ∷ ps) o po all =
    elim (nat_lt o.seq p.seq) as (λ b. AllByRecursion P (if b then o ∷ p ∷ ps else p ∷ placed ps o)) [
      | true ↦ (po, all)
      | false ↦ (all.0, All-placed P ps o po all.1)
    ]

-- each number is above n, so above a smaller m too
pub above_less : (m n : ℕ) (os : List Op) → m < n → AllByRecursion (λ p. n < p.seq) os → AllByRecursion (λ p. m < p.seq) os
above_less m n [] lt all = tt
above_less m n (p ∷ ps) lt all = (let h : n < p.seq = all.0 in omega arith, above_less m n ps lt all.1)

pub IsAscending-placed : (os : List Op) (o : Op) → op_at os o.seq ≡ None → IsAscending os → IsAscending (placed os o)
IsAscending-placed [] o free up = (tt, tt)
IsAscending-placed (p ∷ ps) o free up =
    elim (nat_lt o.seq p.seq) as (λ b. nat_lt o.seq p.seq ≡ b → IsAscending (if b then o ∷ p ∷ ps else p ∷ placed ps o)) [
      | true ↦ λ is. let lt : o.seq < p.seq = grind (arith, nat_tests) in ((lt, above_less o.seq p.seq ps lt up.0), up)
      | false ↦ λ is.
          let lt : p.seq < o.seq = grind (arith, nat_tests) in
          let rest : op_at ps o.seq ≡ None = grind (arith, nat_tests) in
          (All-placed (λ q. p.seq < q.seq) ps o lt up.0, IsAscending-placed ps o rest up.1)
    ] refl

-- the last on an id is one of the operations
pub last_has : (P : Op → Type 0) (os : List Op) (id : Id) → AllByRecursion P os → IfSome (last_on os id) P
last_has P [] id all = tt
last_has P (o ∷ os) id all =
    elim (last_on os id) as (λ l. IfSome l P → IfSome (option_or l (if is_on id o then Some o else None)) P) [
      | None ↦ λ _. elim (is_on id o) as (λ b. IfSome (if b then Some o else None) P) [ true ↦ all.0 | false ↦ tt ]
      | Some q ↦ λ h. h
    ] (last_has P os id all.1)

-- o goes before all: it is the last only where there is none
placed_first : (on : Bool) (l : Option Op) (o : Op) → IfSome l (λ q. o.seq < q.seq) → option_or l (if on then Some o else None) ≡ (if on && not (is_newer l o.seq) then Some o else l)
placed_first true None o h = refl
placed_first false None o h = refl
placed_first true (Some q) o h = grind (arith, nat_tests)
placed_first false (Some q) o h = refl

-- o goes behind p
placed_later : (on on_p : Bool) (l : Option Op) (o p : Op) → p.seq < o.seq →
    option_or (if on && not (is_newer l o.seq) then Some o else l) (if on_p then Some p else None)
    ≡ (if on && not (is_newer (option_or l (if on_p then Some p else None)) o.seq) then Some o else option_or l (if on_p then Some p else None))
placed_later true true None o p lt = grind (arith, nat_tests)
placed_later true false None o p lt = refl
placed_later false on_p None o p lt = refl
placed_later true on_p (Some q) o p lt = elim (nat_lt o.seq q.seq) as (λ b. option_or (if not b then Some o else Some q) (if on_p then Some p else None) ≡ (if not b then Some o else Some q)) [ true ↦ refl | false ↦ refl ]
placed_later false on_p (Some q) o p lt = refl

-- adding an operation at a free number changes the last on an id only where it is on that id and none there is greater
pub last_on-placed : (os : List Op) (o : Op) (id : Id) → op_at os o.seq ≡ None → IsAscending os →
    last_on (placed os o) id ≡ (if is_on id o && not (is_newer (last_on os id) o.seq) then Some o else last_on os id)
last_on-placed [] o id free up = placed_first (is_on id o) None o tt
last_on-placed (p ∷ ps) o id free up =
    elim (nat_lt o.seq p.seq) as (λ b. nat_lt o.seq p.seq ≡ b → last_on (if b then o ∷ p ∷ ps else p ∷ placed ps o) id ≡ (if is_on id o && not (is_newer (last_on (p ∷ ps) id) o.seq) then Some o else last_on (p ∷ ps) id)) [
      | true ↦ λ is.
          let lt : o.seq < p.seq = grind (arith, nat_tests) in
          placed_first (is_on id o) (last_on (p ∷ ps) id) o (last_has (λ q. o.seq < q.seq) (p ∷ ps) id (lt, above_less o.seq p.seq ps lt up.0))
      | false ↦ λ is.
          let lt : p.seq < o.seq = grind (arith, nat_tests) in
          let rest : op_at ps o.seq ≡ None = grind (arith, nat_tests) in
          ap (λ l. option_or l (if is_on id p then Some p else None)) (last_on-placed ps o id rest up.1) ∙ placed_later (is_on id o) (is_on id p) (last_on ps id) o p lt
    ] refl

-- each number from n up to where they reach is there, if all are at least n
at_least : (n : ℕ) (os : List Op) → Type 0
at_least n os = AllByRecursion (λ p. n ≤ p.seq) os

above_from : (m n : ℕ) (os : List Op) → n ≡ suc m → AllByRecursion (λ p. m < p.seq) os → at_least n os
unfolding at_least
above_from m n [] e all = tt
above_from m n (p ∷ ps) e all = (let h : m < p.seq = all.0 in omega arith, above_from m n ps e all.1)

none_below : (n k : ℕ) (os : List Op) → at_least n os → k < n → op_at os k ≡ None
unfolding at_least
none_below n k [] all lt = refl
none_below n k (p ∷ ps) all lt = let h : n ≤ p.seq = all.0 in grind (arith, nat_tests, none_below n k ps all.1 lt)

pub reached-le : (n : ℕ) (os : List Op) → n ≤ reached n os
reached-le n [] = omega arith
reached-le n (o ∷ os) = grind (arith, nat_tests, reached-le (suc n) os)

reached_all : (n : ℕ) (os : List Op) → IsAscending os → at_least n os → (k : ℕ) → n ≤ k → k < reached n os → is_some (op_at os k) ≡ true
unfolding at_least
reached_all n [] up all k le lt = absurd (omega arith)
reached_all n (o ∷ os) up all k le lt =
    elim (o.seq == n) as (λ b. (o.seq == n) ≡ b → k < (if b then reached (suc n) os else n) → is_some (op_at (o ∷ os) k) ≡ true) [
      | true ↦ λ is lt. grind (arith, nat_tests, reached_all (suc n) os up.1 (above_from o.seq (suc n) os (grind (arith, nat_tests)) up.0) k)
      | false ↦ λ is lt. absurd (omega arith)
    ] refl lt

reached_end : (n : ℕ) (os : List Op) → IsAscending os → at_least n os → op_at os (reached n os) ≡ None
unfolding at_least
reached_end n [] up all = refl
reached_end n (o ∷ os) up all =
    elim (o.seq == n) as (λ b. (o.seq == n) ≡ b → op_at (o ∷ os) (if b then reached (suc n) os else n) ≡ None) [
      | true ↦ λ is. grind (arith, nat_tests, reached-le (suc n) os, reached_end (suc n) os up.1 (above_from o.seq (suc n) os (grind (arith, nat_tests)) up.0))
      | false ↦ λ is. let lt : n < o.seq = (let h : n ≤ o.seq = all.0 in grind (arith, nat_tests)) in none_below (suc n) n (o ∷ os) (lt, above_less n o.seq os lt up.0) (omega arith)
    ] refl

all_from_zero : (os : List Op) → at_least 0 os
unfolding at_least
all_from_zero [] = tt
all_from_zero (o ∷ os) = (omega arith, all_from_zero os)

-- every number that the local checkpoint counts is there
pub below_local_count : (os : List Op) → IsAscending os → (k : ℕ) → k < local_count os → is_some (op_at os k) ≡ true
below_local_count os up k lt = reached_all 0 os up (all_from_zero os) k (omega arith) lt

-- and the next is not
pub at_local_count : (os : List Op) → IsAscending os → op_at os (local_count os) ≡ None
at_local_count os up = reached_end 0 os up (all_from_zero os)

-- the last on an id, with one more operation behind all
pub last_on-push : (os : List Op) (o : Op) (id : Id) → last_on (os ++ o ∷ []) id ≡ (if is_on id o then Some o else last_on os id)
last_on-push [] o id = elim (is_on id o) as (λ b. option_or None (if b then Some o else None) ≡ (if b then Some o else None)) [ true ↦ refl | false ↦ refl ]
last_on-push (p ∷ ps) o id =
    ap (λ l. option_or l (if is_on id p then Some p else None)) (last_on-push ps o id)
    ∙ elim (is_on id o) as (λ b. option_or (if b then Some o else last_on ps id) (if is_on id p then Some p else None) ≡ (if b then Some o else last_on (p ∷ ps) id)) [ true ↦ refl | false ↦ refl ]

-- the greatest number is that of the last operation
pub next_seq-at : (os : List Op) (i : ℕ) (d : Op) → suc i ≡ length os → next_seq os ≡ suc (get_or os i d).seq
next_seq-at [] i d e = absurd (omega arith)
next_seq-at (p ∷ []) zero d e = refl
next_seq-at (p ∷ []) (suc i) d e = absurd (omega arith)
next_seq-at (p ∷ q ∷ qs) zero d e = absurd (omega arith)
next_seq-at (p ∷ q ∷ qs) (suc i) d e = next_seq-at (q ∷ qs) i d (omega arith)

-- each number is below it
pub next_seq-above : (os : List Op) → IsAscending os → AllByRecursion (λ o. o.seq < next_seq os) os
next_seq-above [] up = tt
next_seq-above (p ∷ []) up = (omega arith, tt)
next_seq-above (p ∷ q ∷ qs) up =
    let rest = next_seq-above (q ∷ qs) up.1 in
    (let lt : p.seq < q.seq = up.0.0 in let le : q.seq < next_seq (q ∷ qs) = rest.0 in omega arith, rest)

-- what is reached from n on is n, or below the greatest number
pub reached-within : (n : ℕ) (os : List Op) → IsAscending os → reached n os ≤ max n (next_seq os)
reached-within n [] up = omega arith
reached-within n (o ∷ []) up = grind (arith, nat_tests)
reached-within n (o ∷ p ∷ ps) up =
    let above : AllByRecursion (λ q. q.seq < next_seq (p ∷ ps)) (p ∷ ps) = next_seq-above (p ∷ ps) up.1 in
    let first : p.seq < next_seq (p ∷ ps) = above.0 in
    let lt : o.seq < p.seq = up.0.0 in
    grind (arith, nat_tests, reached-within (suc n) (p ∷ ps) up.1)

pub local_count-within : (os : List Op) → IsAscending os → local_count os ≤ next_seq os
local_count-within os up = omega (arith, reached-within 0 os up)

-- placing an operation raises the greatest number to its own at most
pub next_seq-placed : (os : List Op) (o : Op) → next_seq (placed os o) ≤ max (next_seq os) (suc o.seq)
next_seq-placed [] o = omega arith
next_seq-placed (p ∷ []) o = grind (arith, nat_tests)
next_seq-placed (p ∷ q ∷ qs) o = grind (arith, nat_tests, next_seq-placed (q ∷ qs) o)

pub next_seq-add : (os : List Op) (o : Op) → next_seq (add os o) ≤ max (next_seq os) (suc o.seq)
next_seq-add os o = elim (is_some (op_at os o.seq)) as (λ b. next_seq (if b then os else placed os o) ≤ max (next_seq os) (suc o.seq)) [ true ↦ omega arith | false ↦ next_seq-placed os o ]

-- two operations with different numbers may be placed in either order
placed-placed : (os : List Op) (o p : Op) → o.seq ≢ p.seq → placed (placed os o) p ≡ placed (placed os p) o
placed-placed [] o p ne = grind (arith, nat_tests)
placed-placed (q ∷ qs) o p ne = grind (arith, nat_tests, placed-placed qs o p ne)

-- one of them is there: it is not added again, and the other one's number is as free as it was
add_there : (os : List Op) (o p : Op) → o.seq ≢ p.seq → is_some (op_at os o.seq) ≡ true → add os p ≡ add (add os p) o
add_there os o p ne there = grind (arith, nat_tests, op_at-placed os p o.seq)

pub add-add : (os : List Op) (o p : Op) → o.seq ≢ p.seq → add (add os o) p ≡ add (add os p) o
add-add os o p ne = grind (arith, nat_tests, op_at-placed os o p.seq, op_at-placed os p o.seq, placed-placed os o p ne)

pub IsAscending-add : (os : List Op) (o : Op) → IsAscending os → IsAscending (add os o)
IsAscending-add os o up =
    elim (op_at os o.seq) as (λ found. op_at os o.seq ≡ found → IsAscending (if is_some found then os else placed os o)) [
      | None ↦ λ free. IsAscending-placed os o free up
      | Some q ↦ λ there. up
    ] refl

-- a number above all is free
none_at : (os : List Op) (n : ℕ) → AllByRecursion (λ o. o.seq < n) os → op_at os n ≡ None
none_at [] n all = refl
none_at (o ∷ os) n all = let h : o.seq < n = all.0 in grind (arith, nat_tests, none_at os n all.1)

pub op_at-next_seq : (os : List Op) → IsAscending os → op_at os (next_seq os) ≡ None
op_at-next_seq os up = none_at os (next_seq os) (next_seq-above os up)

not_newer : (l : Option Op) (n : ℕ) → IfSome l (λ o. o.seq < n) → is_newer l n ≡ false
not_newer None n h = refl
not_newer (Some o) n h = grind (arith, nat_tests)

-- no operation on an id is newer than the next number
pub last_on-below : (os : List Op) (id : Id) → IsAscending os → is_newer (last_on os id) (next_seq os) ≡ false
last_on-below os id up = not_newer (last_on os id) (next_seq os) (last_has (λ o. o.seq < next_seq os) os id (next_seq-above os up))

-- all operations are those from number 0 on
pub from_number-zero : (os : List Op) → from_number 0 os ≡ os
from_number-zero [] = refl
from_number-zero (o ∷ os) = let le : nat_le 0 o.seq ≡ true = grind (arith, nat_tests) in rw (le, from_number-zero os) refl

pub op_at-append : (os ps : List Op) (n : ℕ) → op_at (os ++ ps) n ≡ option_or (op_at os n) (op_at ps n)
op_at-append [] ps n = refl
op_at-append (o ∷ os) ps n = grind (arith, nat_tests, op_at-append os ps n)

pub next_seq-push : (os : List Op) (o : Op) → next_seq (os ++ o ∷ []) ≡ suc o.seq
next_seq-push [] o = refl
next_seq-push (p ∷ []) o = refl
next_seq-push (p ∷ q ∷ qs) o = next_seq-push (q ∷ qs) o
