-- Places of documents that are all live.
use Rattle.std.proofs.Common.{◌≡◌, ◌<◌, ℕ, ◌+◌, Bool, true, List, [], ◌∷◌, ◌++◌, length, map, refl, sym, ap, ◌∙◌, arith, if◌then◌else◌, take}
use Rattle.std.specs.List.{range_with_len}
use Rattle.std.proofs.lemmas.List.FromFn.{map-range_with_len_more, take-map-range_with_len}
use Rattle.marks.specs.Lists.{places, places_from}
use Rattle.segment.proofs.Ahead.{places-map}

-- the places of marks are those of the test that they are marks of
pub places-tested : {A : Type 0} (test : A → Bool) (xs : List A) (marks : List Bool) → marks ≡ map test xs → places (λ (b : Bool). b) marks ≡ places test xs
places-tested test xs marks is = ap (places (λ (b : Bool). b)) is ∙ places-map (λ (b : Bool). b) test xs

module _ {A : Type 0} (p q : A → Bool) (same : (x : A) → p x ≡ q x) where
  pick : (b c : Bool) (n : ℕ) (ps qs : List ℕ) → b ≡ c → ps ≡ qs → (if b then n ∷ ps else ps) ≡ (if c then n ∷ qs else qs)
  pick b c n ps qs is rest = ap (λ d. if d then n ∷ ps else ps) is ∙ ap (λ rs. if c then n ∷ rs else rs) rest

  agree_from : (n : ℕ) (xs : List A) → places_from p n xs ≡ places_from q n xs
  agree_from n [] = refl
  agree_from n (x ∷ xs) = pick (p x) (q x) n _ _ (same x) (agree_from (n + 1) xs)

  -- tests that agree pass at the same places
  pub places-agree : (xs : List A) → places p xs ≡ places q xs
  places-agree xs = agree_from 0 xs

itself : {A : Type 0} (xs : List A) → map (λ x. x) xs ≡ xs
itself [] = refl
itself (x ∷ xs) = ap (λ ys. x ∷ ys) (itself xs)

-- one number more
pub range-more : (n : ℕ) (ks : List ℕ) → ks ≡ range_with_len 0 n → ks ++ n ∷ [] ≡ range_with_len 0 (n + 1)
range-more n ks is =
    ap (λ js. js ++ n ∷ []) (is ∙ sym (itself (range_with_len 0 n))) ∙ sym (map-range_with_len_more (λ k. k) 0 n n (omega arith)) ∙ itself (range_with_len 0 (n + 1))

-- the first of some numbers
pub range-first : (k n : ℕ) → k < n + 1 → range_with_len 0 k ≡ take k (range_with_len 0 n)
range-first k n le = sym (itself (range_with_len 0 k)) ∙ sym (take-map-range_with_len (λ j. j) 0 n k (omega (arith, le))) ∙ ap (take k) (itself (range_with_len 0 n))

all_from : {A : Type 0} (n : ℕ) (xs : List A) → places_from (λ (x : A). true) n xs ≡ range_with_len n (length xs)
all_from n [] = refl
all_from n (x ∷ xs) = ap (λ ps. n ∷ ps) (all_from (n + 1) xs)

-- a test that all pass
pub places-every : {A : Type 0} (test : A → Bool) → ((x : A) → test x ≡ true) → (xs : List A) (n : ℕ) → n ≡ length xs → range_with_len 0 n ≡ places test xs
places-every test every xs n is = ap (range_with_len 0) is ∙ sym (all_from 0 xs) ∙ sym (places-agree test (λ x. true) every xs)
