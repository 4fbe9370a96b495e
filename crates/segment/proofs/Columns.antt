-- What a column gives.
use Rattle.std.proofs.Common.{◌≡◌, ◌<◌, ◌+◌, ◌||◌, ◌∙◌, ap, sym, refl, arith, length, List, [], ◌∷◌, Bool, false, ℕ, suc, subst, All, map, Option, Some, None, nat_lt, if◌then◌else◌}
use Rattle.std.proofs.lemmas.List.{length-map}
use Rattle.doc.specs.Fields.{Fields, kind_at}
use Rattle.doc.specs.Mapping.{MappingData}
use Rattle.doc.specs.Scalar.{Scalar, is_scalar}
use Rattle.doc.specs.declared.mapping.Kind.{Kind}
use Rattle.doc.specs.declared.mapping.Kind.TheVariants.{Keyword, Text, Long, Boolean}
use Rattle.doc.specs.Document.{Values, all_values, values_at}
use Rattle.analysis.specs.Terms.{terms_at, terms_by}
use Rattle.std.specs.List.{list_any}
use Rattle.marks.specs.Lists.{zip_with, marked, places, places_from}
use Rattle.segment.specs.Indexed.{has_term, has_value}
use Rattle.segment.proofs.Ahead.{places-map}
use Rattle.segment.proofs.Zips.{marked-zip, zip-test, zip-none, zip-map}
use Rattle.segment.proofs.Steps.{places-below}

-- no values give no terms
pub no_terms : (k : Option Kind) → terms_by k [] ≡ []
no_terms None = refl
no_terms (Some Keyword) = refl
no_terms (Some Text) = refl
no_terms (Some Long) = refl
no_terms (Some Boolean) = refl

pub none_text : (fields : Fields) (name : List ℕ) (t : Scalar) (d : Values) → values_at name d ≡ [] → has_term fields name t d ≡ false
none_text fields name t d empty = ap (λ vs. list_any (is_scalar t) (terms_by (kind_at name fields) vs)) empty ∙ ap (list_any (is_scalar t)) (no_terms (kind_at name fields))

-- so none passes a test
pub none_any : (fields : Fields) (name : List ℕ) (test : Scalar → Bool) (d : Values) → values_at name d ≡ [] → list_any test (terms_at fields d name) ≡ false
none_any fields name test d empty = ap (λ vs. list_any test (terms_by (kind_at name fields) vs)) empty ∙ ap (list_any test) (no_terms (kind_at name fields))

pub none_value : (name : List ℕ) (d : Values) → values_at name d ≡ [] → has_value name d ≡ false
none_value name d empty = ap (λ vs. nat_lt 0 (length vs)) empty

module _ (m : MappingData) (old : List Bool) (sources : List (List ℕ)) (same : length old ≡ length sources) where
  as_long : length old ≡ length (map (all_values m) sources)
  as_long = same ∙ sym (length-map sources (all_values m))

  pub unmapped : (name : List ℕ) (test : Values → Bool) → ((d : Values) → values_at name d ≡ [] → test d ≡ false) → All (λ d. values_at name d ≡ []) (map (all_values m) sources) → old ≡ zip_with (λ b s. b || test (all_values m s)) old sources
  unmapped name test none all = zip-none test old (map (all_values m) sources) as_long (λ k d in_range. none _ (all k d in_range)) ∙ zip-map (all_values m) (λ b d. b || test d) old sources

  pub by_marks : (test : Values → Bool) (marks : List Bool) → marks ≡ map test (map (all_values m) sources) → zip_with (λ a b. a || b) old marks ≡ zip_with (λ b s. b || test (all_values m s)) old sources
  by_marks test marks is = ap (zip_with (λ a b. a || b) old) is ∙ zip-test (λ a b. a || b) test old (map (all_values m) sources) ∙ zip-map (all_values m) (λ b d. b || test d) old sources

  pub long-enough : (test : Values → Bool) (marks : List Bool) → marks ≡ map test (map (all_values m) sources) → length marks ≡ length old
  long-enough test marks is = ap length is ∙ length-map (map (all_values m) sources) test ∙ sym as_long

  pub by_places : (test : Values → Bool) (ps : List ℕ) → ps ≡ places test (map (all_values m) sources) → marked old ps ≡ zip_with (λ b s. b || test (all_values m s)) old sources
  by_places test ps is = ap (marked old) is ∙ marked-zip test old (map (all_values m) sources) as_long ∙ zip-map (all_values m) (λ b d. b || test d) old sources

  pub places-within : (test : Values → Bool) (ps : List ℕ) → ps ≡ places test (map (all_values m) sources) → All (λ p. p < length old) ps
  places-within test ps is = subst (λ qs. All (λ p. p < length old) qs) (sym is) (subst (λ n. All (λ p. p < n) (places test (map (all_values m) sources))) (sym as_long) (places-below test (map (all_values m) sources)))

-- the places of what nothing passes
pub places-none : {A : Type 0} (test : A → Bool) (n : ℕ) (xs : List A) → All (λ x. test x ≡ false) xs → places_from test n xs ≡ []
places-none test n [] all = refl
places-none test n (x ∷ xs) all = ap (λ b. if b then n ∷ places_from test (n + 1) xs else places_from test (n + 1) xs) (all 0 x (omega arith)) ∙ places-none test (n + 1) xs (λ k d lt. all (suc k) d (omega (arith, lt)))

module _ (m : MappingData) (sources : List (List ℕ)) (test : Values → Bool) where
  -- the places of documents are those of their sources
  pub places-of_sources : (ps : List ℕ) → ps ≡ places test (map (all_values m) sources) → ps ≡ places (λ s. test (all_values m s)) sources
  places-of_sources ps is = is ∙ places-map test (all_values m) sources

  -- a field without a column has none
  pub places-unmapped : (name : List ℕ) → ((d : Values) → values_at name d ≡ [] → test d ≡ false) → All (λ d. values_at name d ≡ []) (map (all_values m) sources) → [] ≡ places (λ s. test (all_values m s)) sources
  places-unmapped name none all = sym (places-none test 0 (map (all_values m) sources) (λ k d in_range. none _ (all k d in_range))) ∙ places-map test (all_values m) sources
