-- Lists of numbers that are filtered by one member after another.
use Rattle.std.proofs.Common.{◌≡◌, ℕ, Bool, true, false, ◌&&◌, ◌||◌, not, List, [], ◌∷◌, if◌then◌else◌, refl, sym, ap, ◌∙◌, arith}
use Rattle.std.specs.Prelude.{filter, ◌==◌}
use Rattle.std.specs.List.{list_all}
use Rattle.std.proofs.lemmas.Bool.Decides.{nat_tests}
use Rattle.op.specs.Ids.{has, without}
use Rattle.replica.specs.Acks.{acks_of, Acks}

-- whether all of some members but one have acknowledged a number
abbrev pub all_have : Acks → ℕ → List ℕ → ℕ → Bool
all_have acks own members n = list_all (λ r. has (acks_of acks r) n) (without members own)

pub filter_true : (ns : List ℕ) → filter (λ n. true) ns ≡ ns
filter_true [] = refl
filter_true (n ∷ ns) = ap (λ ms. n ∷ ms) (filter_true ns)

filter_twice : (p q : ℕ → Bool) (ns : List ℕ) → filter q (filter p ns) ≡ filter (λ n. p n && q n) ns
filter_twice p q [] = refl
filter_twice p q (n ∷ ns) = (elim (p n) as (λ b. filter q (if b then n ∷ filter p ns else filter p ns) ≡ (if b && q n then n ∷ filter (λ m. p m && q m) ns else filter (λ m. p m && q m) ns)) [
  | true ↦ ap (λ ms. if q n then n ∷ ms else ms) (filter_twice p q ns)
  | false ↦ filter_twice p q ns
])

-- one member more has been asked, or it is the primary itself
pub asked-other : (acks : Acks) (own r : ℕ) (rs ns : List ℕ) → (r == own) ≡ false → filter (all_have acks own rs) (filter (λ n. has (acks_of acks r) n) ns) ≡ filter (all_have acks own (r ∷ rs)) ns
asked-other acks own r rs ns other = filter_twice (λ n. has (acks_of acks r) n) (all_have acks own rs) ns ∙ sym (ap (λ b. filter (λ n. list_all (λ s. has (acks_of acks s) n) (if not b then r ∷ without rs own else without rs own)) ns) other)

pub asked-own : (acks : Acks) (own r : ℕ) (rs ns : List ℕ) → (r == own) ≡ true → filter (all_have acks own rs) ns ≡ filter (all_have acks own (r ∷ rs)) ns
asked-own acks own r rs ns is = sym (ap (λ b. filter (λ n. list_all (λ s. has (acks_of acks s) n) (if not b then r ∷ without rs own else without rs own)) ns) is)

-- what passes a filter is in what it leaves
has-filter : (p : ℕ → Bool) (ns : List ℕ) (k : ℕ) → has (filter p ns) k ≡ (has ns k && p k)
has-filter p [] k = refl
has-filter p (n ∷ ns) k = elim (n == k) as (λ b. (n == k) ≡ b → has (filter p (n ∷ ns)) k ≡ (has (n ∷ ns) k && p k)) [
  | true ↦ λ is. let same : n ≡ k = grind (arith, nat_tests, is) in let one : p n ≡ p k = ap p same in let rest = has-filter p ns k in grind (arith, nat_tests, is, one, rest)
  | false ↦ λ is. let rest = has-filter p ns k in grind (arith, nat_tests, is, rest)
] refl

-- those of a list that others lack
lacking : (p : ℕ → Bool) (all ns : List ℕ) → ((k : ℕ) → has ns k ≡ true → has all k ≡ true) → filter (λ n. not (has (filter p all) n)) ns ≡ filter (λ n. not (p n)) ns
lacking p all [] inside = refl
lacking p all (n ∷ ns) inside =
    let here : has (filter p all) n ≡ p n = has-filter p all n ∙ ap (λ b. b && p n) (inside n (grind (arith, nat_tests))) in
    let rest = lacking p all ns (λ k h. inside k (or_right (n == k) (has ns k) h)) in
    ap (λ b. if not b then n ∷ filter (λ m. not (has (filter p all) m)) ns else filter (λ m. not (has (filter p all) m)) ns) here ∙ ap (λ ms. if not (p n) then n ∷ ms else ms) rest
  where
    or_right : (a b : Bool) → b ≡ true → (a || b) ≡ true
    or_right true b is = refl
    or_right false b is = is

pub without_settled : (p : ℕ → Bool) (ns : List ℕ) → filter (λ n. not (has (filter p ns) n)) ns ≡ filter (λ n. not (p n)) ns
without_settled p ns = lacking p ns ns (λ k h. h)
