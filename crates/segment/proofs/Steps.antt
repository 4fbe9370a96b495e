-- One more word of a document, and one more document.
use Rattle.std.proofs.Common.{◌≡◌, ◌<◌, ℕ, ◌+◌, zero, suc, Bool, true, false, ◌||◌, List, [], ◌∷◌, ◌++◌, length, refl, sym, ap, ◌∙◌, arith, All, subst, if◌then◌else◌}
use Rattle.std.specs.Str.{bytes_eq}
use Rattle.std.specs.Cmp.Lexicographic.{bytes_decides, nat_list_eq_equiv}
use Rattle.std.proofs.lemmas.List.Folds.{list_any-append}
use Rattle.segment.specs.Places.{has_word, added, one_if}
use Rattle.marks.specs.Lists.{places, places_from}
use Rattle.segment.proofs.Ends.{added-once}

-- a word at the end is among the words
pub has_word-push : (w : List ℕ) (ws : List (List ℕ)) (word : List ℕ) → has_word w (ws ++ word ∷ []) ≡ (has_word w ws || bytes_eq w word)
has_word-push w ws word = list_any-append (bytes_eq w) ws (word ∷ []) ∙ or_false (has_word w ws) (bytes_eq w word)
  where
    or_false : (a b : Bool) → (a || (b || false)) ≡ (a || b)
    or_false true b = refl
    or_false false true = refl
    or_false false false = refl

or-true : (a : Bool) → (a || true) ≡ true
or-true true = refl
or-true false = refl

or-false : (a : Bool) → (a || false) ≡ a
or-false true = refl
or-false false = refl

module _ (at : ℕ) (ws : List (List ℕ)) (word : List ℕ) (old now new : List ℕ → List ℕ)
    (below : (w : List ℕ) → All (λ p. p < at) (old w))
    (so_far : (w : List ℕ) → now w ≡ old w ++ one_if (has_word w ws) at)
    (here : new word ≡ added (now word) at)
    (others : (w : List ℕ) → bytes_eq word w ≡ false → new w ≡ now w) where
  step : (w : List ℕ) (b : Bool) → bytes_eq word w ≡ b → new w ≡ old w ++ one_if (has_word w (ws ++ word ∷ [])) at
  step w true same =
      let is : word ≡ w = (bytes_decides word w).0 same in
      let mine : new w ≡ old w ++ one_if true at = subst (λ v. new v ≡ old v ++ one_if true at) is (here ∙ ap (λ ps. added ps at) (so_far word) ∙ added-once at (old word) (has_word word ws) (below word)) in
      mine ∙ ap (λ b. old w ++ one_if b at) (sym (has_word-push w ws word ∙ ap (λ b. has_word w ws || b) (nat_list_eq_equiv.symm w word ∙ same) ∙ or-true (has_word w ws)))
  step w false differs =
      others w differs ∙ so_far w ∙ ap (λ b. old w ++ one_if b at) (sym (has_word-push w ws word ∙ ap (λ b. has_word w ws || b) (nat_list_eq_equiv.symm w word ∙ differs) ∙ or-false (has_word w ws)))

  -- one more word of the document
  pub one_more_word : (w : List ℕ) → new w ≡ old w ++ one_if (has_word w (ws ++ word ∷ [])) at
  one_more_word w = step w (bytes_eq word w) refl

-- a front element, there or not
front_if : (b : Bool) (n : ℕ) (all first last : List ℕ) → all ≡ first ++ last → (if b then n ∷ all else all) ≡ (if b then n ∷ first else first) ++ last
front_if true n all first last is = ap (λ ps. n ∷ ps) is
front_if false n all first last is = is

one_if_at : (b : Bool) (n m : ℕ) → n ≡ m → (if b then n ∷ [] else []) ≡ one_if b m
one_if_at true n m same = ap (λ k. k ∷ []) same
one_if_at false n m same = refl

below_if : (b : Bool) (n m : ℕ) (ps : List ℕ) → n < m → All (λ q. q < m) ps → All (λ q. q < m) (if b then n ∷ ps else ps)
below_if true n m ps first rest zero d in_range = first
below_if true n m ps first rest (suc k) d in_range = rest k d (omega (arith, in_range))
below_if false n m ps first rest k d in_range = rest k d in_range

module _ {A : Type 0} (p : A → Bool) where
  places_from-push : (n : ℕ) (xs : List A) (x : A) → places_from p n (xs ++ x ∷ []) ≡ places_from p n xs ++ one_if (p x) (n + length xs)
  places_from-push n [] x = one_if_at (p x) n (n + 0) (omega arith)
  places_from-push n (y ∷ ys) x =
      let same : n + 1 + length ys ≡ n + suc (length ys) = omega arith in
      front_if (p y) n _ _ _ (places_from-push (n + 1) ys x ∙ ap (λ m. places_from p (n + 1) ys ++ one_if (p x) m) same)

  -- one more element, which passes or not
  pub places-push : (xs : List A) (x : A) → places p (xs ++ x ∷ []) ≡ places p xs ++ one_if (p x) (length xs)
  places-push xs x =
      let same : 0 + length xs ≡ length xs = omega arith in
      places_from-push 0 xs x ∙ ap (λ m. places p xs ++ one_if (p x) m) same

  places_from-below : (n m : ℕ) (xs : List A) → n + length xs ≡ m → All (λ q. q < m) (places_from p n xs)
  places_from-below n m [] same = λ k d in_range. omega (arith, in_range)
  places_from-below n m (y ∷ ys) same = below_if (p y) n m (places_from p (n + 1) ys) (omega (arith, same)) (places_from-below (n + 1) m ys (omega (arith, same)))

  -- each place is one of the list's
  pub places-below : (xs : List A) → All (λ q. q < length xs) (places p xs)
  places-below xs = places_from-below 0 (length xs) xs (omega arith)
