-- Places that come among others.
use Rattle.std.proofs.Common.{◌≡◌, ◌≤◌, ℕ, List, [], ◌∷◌, ◌++◌, length, drop, refl, sym, ap, ◌∙◌, append-nil, arith}
use Rattle.std.proofs.lemmas.List.{drop_all}
use Rattle.segment.specs.Woven.{risen}

-- nothing comes
pub risen-nil : (ps : List ℕ) → risen ps [] ≡ ps
risen-nil [] = refl
risen-nil (p ∷ ps) = ap (λ qs. p ∷ qs) (risen-nil ps)

-- the same of a list without places
pub risen-none : (ps qs : List ℕ) → length qs ≡ 0 → ps ≡ risen ps qs
risen-none ps [] none = sym (risen-nil ps)
risen-none ps (q ∷ qs) none = absurd (omega (arith, none))

-- nothing is left of the first list, and what is left of the second comes last
pub risen-left : (i j : ℕ) (xs ys all : List ℕ) → length xs ≤ i → all ++ risen (drop i xs) (drop j ys) ≡ risen xs ys → (all ++ drop i xs) ++ drop j ys ≡ risen xs ys
risen-left i j xs ys all past is =
    ap (λ zs. (all ++ zs) ++ drop j ys) (drop_all i xs past)
    ∙ ap (λ zs. zs ++ drop j ys) (append-nil all)
    ∙ sym (ap (λ zs. all ++ risen zs (drop j ys)) (drop_all i xs past))
    ∙ is

-- the same with the lists the other way round
pub risen-right : (i j : ℕ) (xs ys all : List ℕ) → length ys ≤ j → all ++ risen (drop i xs) (drop j ys) ≡ risen xs ys → (all ++ drop i xs) ++ drop j ys ≡ risen xs ys
risen-right i j xs ys all past is =
    ap (λ zs. (all ++ drop i xs) ++ zs) (drop_all j ys past)
    ∙ append-nil (all ++ drop i xs)
    ∙ ap (λ zs. all ++ zs) (sym (risen-nil (drop i xs)) ∙ ap (risen (drop i xs)) (sym (drop_all j ys past)))
    ∙ is
