-- Sets of ids.
use Rattle.std.proofs.Common.{◌≡◌, ℕ, Bool, true, false, List, [], ◌∷◌, if◌then◌else◌, refl, arith}
use Rattle.std.specs.Prelude.{◌==◌, not, ◌&&◌, ◌||◌, nat_lt}
use Rattle.std.proofs.lemmas.Bool.Decides.{nat_tests}
use Rattle.op.specs.Ids.{has, with, without}

pub itself : (n : ℕ) → (n == n) ≡ true
itself n = grind (arith, nat_tests)

pub has-with : (ns : List ℕ) (n m : ℕ) → has (with ns n) m ≡ ((n == m) || has ns m)
has-with [] n m = refl
has-with (k ∷ ks) n m = elim (nat_lt n k) as (λ b. has (if b then n ∷ k ∷ ks else (if k == n then k ∷ ks else k ∷ with ks n)) m ≡ ((n == m) || ((k == m) || has ks m))) [
  | true ↦ refl
  | false ↦ (elim (k == n) as (λ b. (k == n) ≡ b → has (if b then k ∷ ks else k ∷ with ks n) m ≡ ((n == m) || ((k == m) || has ks m))) [
    | true ↦ λ is. let same : k ≡ n = grind (arith, nat_tests) in rw same (twice (n == m) (has ks m))
    | false ↦ λ is. rw (has-with ks n m) (swap (k == m) (n == m) (has ks m))
  ]) refl
]
  where
    twice : (a b : Bool) → (a || b) ≡ (a || (a || b))
    twice true b = refl
    twice false b = refl

    swap : (a b c : Bool) → (a || (b || c)) ≡ (b || (a || c))
    swap true true c = refl
    swap true false c = refl
    swap false b c = refl

pub has-without : (ns : List ℕ) (n m : ℕ) → has (without ns n) m ≡ (not (m == n) && has ns m)
has-without [] n m = elim (m == n) as (λ b. false ≡ (not b && false)) [ true ↦ refl | false ↦ refl ]
has-without (k ∷ ks) n m = (elim (k == n) as (λ b. (k == n) ≡ b → has (if not b then k ∷ without ks n else without ks n) m ≡ (not (m == n) && ((k == m) || has ks m))) [
  | true ↦ λ is. rw (has-without ks n m) (drops (k == m) (m == n) (has ks m) (λ km. grind (arith, nat_tests)))
  | false ↦ λ is. rw (has-without ks n m) (stays (k == m) (m == n) (has ks m) (λ km. grind (arith, nat_tests)))
]) refl
  where
    drops : (a b c : Bool) → (a ≡ true → b ≡ true) → (not b && c) ≡ (not b && (a || c))
    drops false b c h = refl
    drops true b c h = rw (h refl) refl

    stays : (a b c : Bool) → (a ≡ true → b ≡ false) → (a || (not b && c)) ≡ (not b && (a || c))
    stays false b c h = refl
    stays true b c h = rw (h refl) refl
