-- One turn of each loop over queries or values.
use Rattle.std.proofs.Common.{◌≡◌, ◌<◌, ◌≤◌, ℕ, ◌+◌, zero, suc, Bool, true, false, nat_le, not, ◌&&◌, ◌||◌, List, [], ◌∷◌, length, map, refl, sym, ap, ◌∙◌, arith, drop, get_or, if◌then◌else◌, drop-cons}
use Rattle.std.specs.List.{list_any, list_all}
use Rattle.doc.specs.Mapping.{MappingData}
use Rattle.doc.specs.Document.{all_values}
use Rattle.doc.specs.ScalarView.{scalar_view, scalars_view}
use Rattle.doc.specs.declared.scalar.Scalar.{Scalar}
use Rattle.query.specs.Query.{queries_of, count_of}
use Rattle.query.specs.Meaning as spec
use Rattle.analysis.specs.Terms as of_terms
use Rattle.query.specs.View.{query_view}
use Rattle.query.specs.declared.query.Query.{Query}
use Rattle.marks.specs.Lists.{zip_with}
use Rattle.std.proofs.lemmas.Bool.Decides.{nat_tests}
use Rattle.segment.proofs.Runs.{zip-ext}
use Rattle.segment.proofs.Zips.{zip-test}
use Rattle.segment.proofs.Joins.{and-more, minus-more, or-more, count-more}

pub next : {A : Type 0} (xs : List A) (i : ℕ) (x : A) → x ≡ get_or xs i x → i < length xs → drop i xs ≡ x ∷ drop (i + 1) xs
next xs i x is lt = let one : suc i ≡ i + 1 = omega arith in drop-cons xs i x lt ∙ ap (λ y. y ∷ drop (suc i) xs) (sym is) ∙ ap (λ j. x ∷ drop j xs) one

pub count-length : (qs : List Query) → length qs ≡ count_of (queries_of (map query_view qs))
count-length [] = refl
count-length (q ∷ qs) = ap suc (count-length qs)

module _ (m : MappingData) (xs : List (List ℕ)) (qs : List Query) (i : ℕ) (q : Query) (is : q ≡ get_or qs i q) (lt : i < length qs) where
  module _ (old new sel : List Bool) (found : sel ≡ map (λ s. spec.means m s (query_view q)) xs) where
    pub keep-turn : new ≡ zip_with (λ a b. a && b) old sel
        → zip_with (λ b s. b && spec.all_match m.fields (all_values m s) (queries_of (map query_view (drop (i + 1) qs)))) new xs ≡ zip_with (λ b s. b && spec.all_match m.fields (all_values m s) (queries_of (map query_view (drop i qs)))) old xs
    keep-turn made =
        ap (λ bs. zip_with (λ b s. b && spec.all_match m.fields (all_values m s) (queries_of (map query_view (drop (i + 1) qs)))) bs xs) (made ∙ ap (zip_with (λ a b. a && b) old) found)
        ∙ and-more (λ s. spec.means m s (query_view q)) (λ s. spec.all_match m.fields (all_values m s) (queries_of (map query_view (drop (i + 1) qs)))) old xs
        ∙ ap (λ ps. zip_with (λ b s. b && spec.all_match m.fields (all_values m s) (queries_of (map query_view ps))) old xs) (sym (next qs i q is lt))

    pub drop-turn : new ≡ zip_with (λ a b. a && not b) old sel
        → zip_with (λ b s. b && spec.none_matches m.fields (all_values m s) (queries_of (map query_view (drop (i + 1) qs)))) new xs ≡ zip_with (λ b s. b && spec.none_matches m.fields (all_values m s) (queries_of (map query_view (drop i qs)))) old xs
    drop-turn made =
        ap (λ bs. zip_with (λ b s. b && spec.none_matches m.fields (all_values m s) (queries_of (map query_view (drop (i + 1) qs)))) bs xs) (made ∙ ap (zip_with (λ a b. a && not b) old) found)
        ∙ minus-more (λ s. spec.means m s (query_view q)) (λ s. spec.none_matches m.fields (all_values m s) (queries_of (map query_view (drop (i + 1) qs)))) old xs
        ∙ ap (λ ps. zip_with (λ b s. b && spec.none_matches m.fields (all_values m s) (queries_of (map query_view ps))) old xs) (sym (next qs i q is lt))

  pub count-turn : (old new : List ℕ) (sel : List Bool) → sel ≡ map (λ s. spec.means m s (query_view q)) xs → new ≡ zip_with (λ n b. if b then n + 1 else n) old sel
      → zip_with (λ n s. n + spec.matching m.fields (all_values m s) (queries_of (map query_view (drop (i + 1) qs)))) new xs ≡ zip_with (λ n s. n + spec.matching m.fields (all_values m s) (queries_of (map query_view (drop i qs)))) old xs
  count-turn old new sel found made =
      ap (λ bs. zip_with (λ n s. n + spec.matching m.fields (all_values m s) (queries_of (map query_view (drop (i + 1) qs)))) bs xs) (made ∙ ap (zip_with (λ n b. if b then n + 1 else n) old) found)
      ∙ count-more (λ s. spec.means m s (query_view q)) (λ s. spec.matching m.fields (all_values m s) (queries_of (map query_view (drop (i + 1) qs)))) old xs
      ∙ ap (λ ps. zip_with (λ n s. n + spec.matching m.fields (all_values m s) (queries_of (map query_view ps))) old xs) (sym (next qs i q is lt))

one_more : (p : Bool) (n : ℕ) → (p || nat_le 1 n) ≡ nat_le 1 ((if p then 1 else 0) + n)
one_more true n = grind (arith, nat_tests)
one_more false n = grind (arith, nat_tests)

module _ (m : MappingData) (xs : List (List ℕ)) (qs : List Query) (i : ℕ) (q : Query) (is : q ≡ get_or qs i q) (lt : i < length qs) where
  pub one-turn : (old new sel : List Bool) → sel ≡ map (λ s. spec.means m s (query_view q)) xs → new ≡ zip_with (λ a b. a || b) old sel
      → zip_with (λ b s. b || nat_le 1 (spec.matching m.fields (all_values m s) (queries_of (map query_view (drop (i + 1) qs))))) new xs ≡ zip_with (λ b s. b || nat_le 1 (spec.matching m.fields (all_values m s) (queries_of (map query_view (drop i qs))))) old xs
  one-turn old new sel found made =
      let means = λ (s : List ℕ). spec.means m s (query_view q) in
      let rest = λ (s : List ℕ). spec.matching m.fields (all_values m s) (queries_of (map query_view (drop (i + 1) qs))) in
      ap (λ bs. zip_with (λ b s. b || nat_le 1 (rest s)) bs xs) (made ∙ ap (zip_with (λ a b. a || b) old) found ∙ zip-test (λ a b. a || b) means old xs)
      ∙ or-more means (λ s. nat_le 1 (rest s)) old xs
      ∙ zip-ext (λ s. means s || nat_le 1 (rest s)) (λ s. nat_le 1 ((if means s then 1 else 0) + rest s)) (λ s. one_more (means s) (rest s)) old xs
      ∙ ap (λ ps. zip_with (λ b s. b || nat_le 1 (spec.matching m.fields (all_values m s) (queries_of (map query_view ps)))) old xs) (sym (next qs i q is lt))

module _ (m : MappingData) (xs : List (List ℕ)) (name : List ℕ) (vs : List Scalar) (i : ℕ) (v : Scalar) (is : v ≡ get_or vs i v) (lt : i < length vs) where
  pub any-turn : (old new : List Bool) → new ≡ zip_with (λ b s. b || of_terms.has (of_terms.terms m s name) (scalar_view v)) old xs
      → zip_with (λ b s. b || list_any (of_terms.has (of_terms.terms m s name)) (scalars_view (drop (i + 1) vs))) new xs ≡ zip_with (λ b s. b || list_any (of_terms.has (of_terms.terms m s name)) (scalars_view (drop i vs))) old xs
  any-turn old new made =
      ap (λ bs. zip_with (λ b s. b || list_any (of_terms.has (of_terms.terms m s name)) (scalars_view (drop (i + 1) vs))) bs xs) made
      ∙ or-more (λ s. of_terms.has (of_terms.terms m s name) (scalar_view v)) (λ s. list_any (of_terms.has (of_terms.terms m s name)) (scalars_view (drop (i + 1) vs))) old xs
      ∙ ap (λ ps. zip_with (λ b s. b || list_any (of_terms.has (of_terms.terms m s name)) (scalars_view ps)) old xs) (sym (next vs i v is lt))

  pub all-turn : (old new sel : List Bool) → sel ≡ map (λ s. of_terms.has (of_terms.terms m s name) (scalar_view v)) xs → new ≡ zip_with (λ a b. a && b) old sel
      → zip_with (λ b s. b && list_all (of_terms.has (of_terms.terms m s name)) (scalars_view (drop (i + 1) vs))) new xs ≡ zip_with (λ b s. b && list_all (of_terms.has (of_terms.terms m s name)) (scalars_view (drop i vs))) old xs
  all-turn old new sel found made =
      ap (λ bs. zip_with (λ b s. b && list_all (of_terms.has (of_terms.terms m s name)) (scalars_view (drop (i + 1) vs))) bs xs) (made ∙ ap (zip_with (λ a b. a && b) old) found)
      ∙ and-more (λ s. of_terms.has (of_terms.terms m s name) (scalar_view v)) (λ s. list_all (of_terms.has (of_terms.terms m s name)) (scalars_view (drop (i + 1) vs))) old xs
      ∙ ap (λ ps. zip_with (λ b s. b && list_all (of_terms.has (of_terms.terms m s name)) (scalars_view ps)) old xs) (sym (next vs i v is lt))

-- past the end nothing is left
pub done : {A : Type 0} (xs : List A) (i : ℕ) → length xs ≤ i → drop i xs ≡ []
done [] zero le = refl
done [] (suc i) le = refl
done (x ∷ xs) zero le = absurd (omega (arith, le))
done (x ∷ xs) (suc i) le = done xs i (omega (arith, le))
