-- Marks joined with a test of each document.
use Rattle.std.proofs.Common.{◌≡◌, ℕ, Bool, true, false, ◌||◌, List, [], ◌∷◌, ◌++◌, length, map, refl, sym, ap, ◌∙◌, arith, suc, All, ◌+◌}
use Rattle.marks.specs.Lists.{zip_with, marked, places, places_from}
use Rattle.std.proofs.lemmas.List.{length_push}
use Rattle.segment.proofs.Marking.{front}

or-false : (a b : Bool) → b ≡ false → (a || b) ≡ a
or-false true b none = refl
or-false false b none = none

module _ {A : Type 0} where
  from : (test : A → Bool) (fs bs : List Bool) (n : ℕ) (xs : List A) → n ≡ length fs → length bs ≡ length xs → marked (fs ++ bs) (places_from test n xs) ≡ fs ++ zip_with (λ b x. b || test x) bs xs
  from test fs [] n [] at same = refl
  from test fs (b ∷ bs) n [] at same = absurd (omega (arith, same))
  from test fs [] n (x ∷ xs) at same = absurd (omega (arith, same))
  from test fs (b ∷ bs) n (x ∷ xs) at same = front fs n b bs (test x) (places_from test (n + 1) xs) (zip_with (λ b x. b || test x) bs xs) at
      (λ v. from test (fs ++ v ∷ []) bs (n + 1) xs (ap (λ m. m + 1) at ∙ sym (length_push fs v)) (omega (arith, same)))

  -- marking the places where a test passes adds the test
  pub marked-zip : (test : A → Bool) (bs : List Bool) (xs : List A) → length bs ≡ length xs → marked bs (places test xs) ≡ zip_with (λ b x. b || test x) bs xs
  marked-zip test bs xs same = from test [] bs 0 xs refl same

  -- uniting with the marks of a test adds it
  pub zip-test : (op : Bool → Bool → Bool) (test : A → Bool) (bs : List Bool) (xs : List A) → zip_with op bs (map test xs) ≡ zip_with (λ b x. op b (test x)) bs xs
  zip-test op test [] xs = refl
  zip-test op test (b ∷ bs) [] = refl
  zip-test op test (b ∷ bs) (x ∷ xs) = ap (λ cs. op b (test x) ∷ cs) (zip-test op test bs xs)

  -- a test that nothing passes adds nothing
  pub zip-none : (test : A → Bool) (bs : List Bool) (xs : List A) → length bs ≡ length xs → All (λ x. test x ≡ false) xs → bs ≡ zip_with (λ b x. b || test x) bs xs
  zip-none test [] [] same all = refl
  zip-none test [] (x ∷ xs) same all = refl
  zip-none test (b ∷ bs) [] same all = absurd (omega (arith, same))
  zip-none test (b ∷ bs) (x ∷ xs) same all = ap (λ c. c ∷ bs) (sym (or-false b (test x) (all 0 x (omega arith)))) ∙ ap (λ cs. (b || test x) ∷ cs) (zip-none test bs xs (omega (arith, same)) (λ k d lt. all (suc k) d (omega (arith, lt))))

  -- the test of an image
  pub zip-map : {C : Type 0} (f : C → A) (op : Bool → A → Bool) (bs : List Bool) (cs : List C) → zip_with op bs (map f cs) ≡ zip_with (λ b c. op b (f c)) bs cs
  zip-map f op [] cs = refl
  zip-map f op (b ∷ bs) [] = refl
  zip-map f op (b ∷ bs) (c ∷ cs) = ap (λ ds. op b (f c) ∷ ds) (zip-map f op bs cs)
