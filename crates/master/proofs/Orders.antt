-- Sets of ids in ascending order.
use Rattle.std.proofs.Common.{◌≡◌, ◌<◌, ◌≤◌, ℕ, zero, suc, Bool, true, false, List, [], ◌∷◌, ◌++◌, ◌==◌, not, filter, nat_lt, if◌then◌else◌, refl, arith}
use Rattle.std.specs.List.{AllByRecursion}
use Rattle.std.proofs.lemmas.Bool.Decides.{nat_tests}
use Rattle.op.specs.Ids.{ids_up_to, has, with, without}
use Rattle.master.specs.State.{IsAscending}

-- ---- all above a bound

all-with : (k : ℕ) (ns : List ℕ) (n : ℕ) → AllByRecursion (λ m. k < m) ns → k < n → AllByRecursion (λ m. k < m) (with ns n)
all-with k [] n all lt = (lt, tt)
all-with k (m ∷ ms) n all lt = elim (nat_lt n m) as (λ b. AllByRecursion (λ j. k < j) (if b then n ∷ m ∷ ms else (if m == n then m ∷ ms else m ∷ with ms n))) [
  | true ↦ (lt, all)
  | false ↦ elim (m == n) as (λ b. AllByRecursion (λ j. k < j) (if b then m ∷ ms else m ∷ with ms n)) [ true ↦ all | false ↦ (all.0, all-with k ms n all.1 lt) ]
]

all-filter : (k : ℕ) (p : ℕ → Bool) (ns : List ℕ) → AllByRecursion (λ m. k < m) ns → AllByRecursion (λ m. k < m) (filter p ns)
all-filter k p [] all = tt
all-filter k p (m ∷ ms) all = elim (p m) as (λ b. AllByRecursion (λ j. k < j) (if b then m ∷ filter p ms else filter p ms)) [ true ↦ (all.0, all-filter k p ms all.1) | false ↦ all-filter k p ms all.1 ]

all-less : (j k : ℕ) (ns : List ℕ) → j < k → AllByRecursion (λ m. k < m) ns → AllByRecursion (λ m. j < m) ns
all-less j k [] lt all = tt
all-less j k (m ∷ ms) lt all = (omega (arith, lt, all.0), all-less j k ms lt all.1)

-- ---- order

pub order-with : (ns : List ℕ) (n : ℕ) → IsAscending ns → IsAscending (with ns n)
order-with [] n order = (tt, tt)
order-with (m ∷ ms) n order = elim (nat_lt n m) as (λ b. nat_lt n m ≡ b → IsAscending (if b then n ∷ m ∷ ms else (if m == n then m ∷ ms else m ∷ with ms n))) [
  | true ↦ λ is. let lt : n < m = grind (arith, nat_tests, is) in ((lt, all-less n m ms lt order.0), order)
  | false ↦ λ is. elim (m == n) as (λ b. (m == n) ≡ b → IsAscending (if b then m ∷ ms else m ∷ with ms n)) [
    | true ↦ λ _. order
    | false ↦ λ apart. let lt : m < n = grind (arith, nat_tests, is, apart) in (all-with m ms n order.0 lt, order-with ms n order.1)
  ] refl
] refl

pub order-without : (ns : List ℕ) (n : ℕ) → IsAscending ns → IsAscending (without ns n)
order-without [] n order = tt
order-without (m ∷ ms) n order = elim (not (m == n)) as (λ b. IsAscending (if b then m ∷ without ms n else without ms n)) [ true ↦ (all-filter m (λ j. not (j == n)) ms order.0, order-without ms n order.1) | false ↦ order-without ms n order.1 ]

-- one more at the end
all-push : (k : ℕ) (ns : List ℕ) (n : ℕ) → AllByRecursion (λ m. k < m) ns → k < n → AllByRecursion (λ m. k < m) (ns ++ n ∷ [])
all-push k [] n all lt = (lt, tt)
all-push k (m ∷ ms) n all lt = (all.0, all-push k ms n all.1 lt)

order-push : (ns : List ℕ) (n : ℕ) → IsAscending ns → AllByRecursion (λ m. m < n) ns → IsAscending (ns ++ n ∷ [])
order-push [] n order below = (tt, tt)
order-push (m ∷ ms) n order below = (all-push m ms n order.0 below.0, order-push ms n order.1 below.1)

below-push : (ns : List ℕ) (n k : ℕ) → AllByRecursion (λ m. m < k) ns → n < k → AllByRecursion (λ m. m < k) (ns ++ n ∷ [])
below-push [] n k all lt = (lt, tt)
below-push (m ∷ ms) n k all lt = (all.0, below-push ms n k all.1 lt)

below-ids : (n k : ℕ) → n < k → AllByRecursion (λ m. m < k) (ids_up_to n)
below-ids zero k lt = tt
below-ids (suc n) k lt = below-push (ids_up_to n) (suc n) k (below-ids n k (omega (arith, lt))) lt

pub order-ids : (n : ℕ) → IsAscending (ids_up_to n)
order-ids zero = tt
order-ids (suc n) = order-push (ids_up_to n) (suc n) (order-ids n) (below-ids n (suc n) (omega arith))

-- ---- an id that is there already

none-below : (k : ℕ) (ns : List ℕ) (n : ℕ) → AllByRecursion (λ m. k < m) ns → n ≤ k → has ns n ≡ false
none-below k [] n all le = refl
none-below k (m ∷ ms) n all le = let lt : k < m = all.0 in grind (arith, nat_tests, lt, le, none-below k ms n all.1 le)

pub with-there : (ns : List ℕ) (n : ℕ) → IsAscending ns → has ns n ≡ true → with ns n ≡ ns
with-there [] n order there = absurd (cc)
with-there (m ∷ ms) n order there = elim (m == n) as (λ b. (m == n) ≡ b → with (m ∷ ms) n ≡ m ∷ ms) [
  | true ↦ λ is. grind (arith, nat_tests, is)
  | false ↦ λ is.
      let rest : has ms n ≡ true = grind (arith, nat_tests, is, there) in
      elim (nat_lt n m) as (λ b. nat_lt n m ≡ b → with (m ∷ ms) n ≡ m ∷ ms) [
        | true ↦ λ lt. let below : n ≤ m = grind (arith, nat_tests, lt) in let none = none-below m ms n order.0 below in absurd (cc)
        | false ↦ λ above. grind (arith, nat_tests, is, above, with-there ms n order.1 rest)
      ] refl
] refl
