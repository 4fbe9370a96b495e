-- The clauses of a `bool` together; counts at each place.
use Rattle.std.proofs.Common.{◌≡◌, ◌<◌, ◌≤◌, ℕ, zero, suc, ◌+◌, Bool, true, false, ◌&&◌, List, [], ◌∷◌, length, map, refl, sym, ap, ◌∙◌, arith, get_or, All, nat_le}
use Rattle.std.proofs.lemmas.Bool.Decides.{nat_tests}
use Rattle.doc.specs.Mapping.{MappingData}
use Rattle.doc.specs.Document.{all_values}
use Rattle.query.specs.Query.{Queries, count_of, bool}
use Rattle.query.specs.Meaning as spec
use Rattle.marks.specs.Lists.{zip_with}
use Rattle.segment.proofs.Joins.{zip-self}
use Rattle.marks.proofs.Views.{map_all}

assoc : (a b c d : Bool) → ((((true && a) && b) && c) && d) ≡ (a && b && c && d)
assoc true true c d = refl
assoc true false c d = refl
assoc false b c d = refl

module _ (m : MappingData) (xs : List (List ℕ)) (f mu mn sh : Queries) (w min : ℕ) (a b c d e : List Bool) where
  pub together : a ≡ map (λ s. true) xs
      → b ≡ zip_with (λ b s. b && spec.all_match m.fields (all_values m s) f) a xs
      → c ≡ zip_with (λ b s. b && spec.all_match m.fields (all_values m s) mu) b xs
      → d ≡ zip_with (λ b s. b && spec.none_matches m.fields (all_values m s) mn) c xs
      → e ≡ zip_with (λ b s. b && nat_le w (spec.matching m.fields (all_values m s) sh)) d xs
      → w ≡ spec.wanted (count_of f) (count_of mu) (count_of sh) min
      → e ≡ map (λ s. spec.means m s (bool f mu mn sh min)) xs
  together ha hb hc hd he hw =
      let F = λ (s : List ℕ). spec.all_match m.fields (all_values m s) f in
      let G = λ (s : List ℕ). spec.all_match m.fields (all_values m s) mu in
      let H = λ (s : List ℕ). spec.none_matches m.fields (all_values m s) mn in
      let K = λ (v : ℕ) (s : List ℕ). nat_le v (spec.matching m.fields (all_values m s) sh) in
      let tb : b ≡ map (λ s. true && F s) xs = hb ∙ ap (λ bs. zip_with (λ b s. b && F s) bs xs) ha ∙ zip-self (λ b s. b && F s) (λ s. true) xs in
      let tc : c ≡ map (λ s. (true && F s) && G s) xs = hc ∙ ap (λ bs. zip_with (λ b s. b && G s) bs xs) tb ∙ zip-self (λ b s. b && G s) (λ s. true && F s) xs in
      let td : d ≡ map (λ s. ((true && F s) && G s) && H s) xs = hd ∙ ap (λ bs. zip_with (λ b s. b && H s) bs xs) tc ∙ zip-self (λ b s. b && H s) (λ s. (true && F s) && G s) xs in
      he ∙ ap (λ bs. zip_with (λ b s. b && K w s) bs xs) td ∙ zip-self (λ b s. b && K w s) (λ s. ((true && F s) && G s) && H s) xs
      ∙ ap (λ v. map (λ s. (((true && F s) && G s) && H s) && K v s) xs) hw
      ∙ map_all _ _ (λ s. assoc (F s) (G s) (H s) (K (spec.wanted (count_of f) (count_of mu) (count_of sh) min) s)) xs

pub zeros-few : {A : Type 0} (xs : List A) → All (λ n. n ≤ 0) (map (λ x. 0) xs)
zeros-few [] k d lt = absurd (omega (arith, lt))
zeros-few (x ∷ xs) zero d lt = omega arith
zeros-few (x ∷ xs) (suc k) d lt = zeros-few xs k d (omega (arith, lt))

pub get_or-zip : {A B C : Type 0} (f : A → B → C) (xs : List A) (ys : List B) (k : ℕ) (a : A) (b : B) (c : C) → k < length xs → length xs ≡ length ys → get_or (zip_with f xs ys) k c ≡ f (get_or xs k a) (get_or ys k b)
get_or-zip f [] ys k a b c lt same = absurd (omega (arith, lt))
get_or-zip f (x ∷ xs) [] k a b c lt same = absurd (omega (arith, same))
get_or-zip f (x ∷ xs) (y ∷ ys) zero a b c lt same = refl
get_or-zip f (x ∷ xs) (y ∷ ys) (suc k) a b c lt same = get_or-zip f xs ys k a b c (omega (arith, lt)) (omega (arith, same))

pub plus-zero : {A : Type 0} (f : A → ℕ) (xs : List A) → map (λ x. 0 + f x) xs ≡ map f xs
plus-zero f xs = map_all (λ x. 0 + f x) f (λ x. omega arith) xs

le_zero : (n : ℕ) → nat_le 0 n ≡ true
le_zero n = grind (arith, nat_tests)

and_le : (b : Bool) (n : ℕ) → (b && nat_le 0 n) ≡ b
and_le true n = le_zero n
and_le false n = refl

pub and-zero : {A : Type 0} (f : A → ℕ) (bs : List Bool) (xs : List A) → length bs ≡ length xs → zip_with (λ b x. b && nat_le 0 (f x)) bs xs ≡ bs
and-zero f [] xs same = refl
and-zero f (b ∷ bs) [] same = absurd (omega (arith, same))
and-zero f (b ∷ bs) (x ∷ xs) same = ap (λ c. c ∷ zip_with (λ b x. b && nat_le 0 (f x)) bs xs) (and_le b (f x)) ∙ ap (λ cs. b ∷ cs) (and-zero f bs xs (omega (arith, same)))

-- a test that all pass leaves the marks as they are
pub all_live : {A : Type 0} (test : A → Bool) → ((x : A) → test x ≡ true) → (xs : List A) (bs : List Bool) → length bs ≡ length xs → bs ≡ zip_with (λ a b. a && b) (map test xs) bs
all_live test every [] [] same = refl
all_live test every [] (b ∷ bs) same = absurd (omega (arith, same))
all_live test every (x ∷ xs) [] same = absurd (omega (arith, same))
all_live test every (x ∷ xs) (b ∷ bs) same = ap (λ c. (c && b) ∷ bs) (sym (every x)) ∙ ap (λ cs. (test x && b) ∷ cs) (all_live test every xs bs (omega (arith, same)))
