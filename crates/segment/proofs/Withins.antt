-- The documents of the keys that pass, marked.
use Rattle.std.proofs.Common.{◌≡◌, ◌<◌, ℕ, ℤ, Bool, true, false, ◌&&◌, ◌||◌, ◌∷◌, List, [], ◌++◌, length, map, refl, sym, ap, ◌∙◌, String, string_bytes, filter, int_eq, if◌then◌else◌, All}
use Rattle.std.specs.List.{list_any}
use Rattle.std.specs.Map.{lookup}
use Rattle.std.specs.Option.{option_map_or}
use Rattle.doc.specs.Mapping.{MappingData}
use Rattle.doc.specs.Scalar.{Scalar, text, long, flag}
use Rattle.doc.specs.Document.{Values, all_values}
use Rattle.analysis.specs.Terms.{terms_at, has}
use Rattle.std.proofs.lemmas.Bool.Decides.{Decides-int_eq}
use Rattle.marks.specs.Lists.{zip_with, marked, places}
use Rattle.segment.specs.Indexed.{has_term}
use Rattle.segment.specs.Term.{is_text, is_long, is_truth}
use Rattle.segment.specs.Places.{as_list}
use Rattle.segment.specs.declared.places.Places.{Places}
use Rattle.segment.proofs.Columns.{by_places, places-within}
use Rattle.segment.proofs.Joins.{or-more, or-end, length-zip}
use Rattle.segment.proofs.Listed.{any-push, map_same}
use Rattle.segment.proofs.Prefixes.{is_word, word_is}
use Rattle.segment.proofs.Runs.{zip-ext, by_docs}
use Rattle.segment.proofs.Zips.{zip-test, zip-map}
use Rattle.segment.proofs.TermKinds.{of_kind, text_made, long_made, by_kinds, truths}

-- the documents of the entries so far are marked
abbrev pub so_far : {E : Type 0} → (E → List ℕ → Bool) → List Bool → List (List ℕ) → List E → List Bool
so_far hits old sources seen = zip_with (λ b s. b || list_any (λ e. hits e s) seen) old sources

module _ (m : MappingData) (name : List ℕ) (test : Scalar → Bool) where
  -- whether the text of an entry passes and is a term of the document
  abbrev pub text_hit : {Y : Type 0} → String Y × Places → List ℕ → Bool
  text_hit e s = test (text (string_bytes e.0)) && has_term m.fields name (text (string_bytes e.0)) (all_values m s)

  -- the same of a number
  abbrev pub long_hit : ℤ × Places → List ℕ → Bool
  long_hit e s = test (long e.0) && has_term m.fields name (long e.0) (all_values m s)

module _ (m : MappingData) (old : List Bool) (sources : List (List ℕ)) (same : length old ≡ length sources) where
  -- places marked if their key passes
  pub marked-if : (ms : List Bool) → length ms ≡ length sources → (passes : Bool) (test : Values → Bool) (ps : List ℕ) → ps ≡ places test (map (all_values m) sources)
      → marked ms (if passes then ps else []) ≡ zip_with (λ b s. b || (passes && test (all_values m s))) ms sources
  marked-if ms whole true test ps is = by_places m ms sources whole test ps is
  marked-if ms whole false test ps is = sym (or-end ms sources whole)

  module _ {E : Type 0} (hits : E → List ℕ → Bool) where
    pub none-so_far : old ≡ so_far hits old sources []
    none-so_far = sym (or-end old sources same)

    pub whole-so_far : (seen : List E) → length (so_far hits old sources seen) ≡ length sources
    whole-so_far seen = length-zip _ old sources same

    -- one entry more
    pub more-so_far : (seen : List E) (entry : E) (passes : Bool) (test : Values → Bool) (ps : List ℕ) → ps ≡ places test (map (all_values m) sources)
        → ((s : List ℕ) → (passes && test (all_values m s)) ≡ hits entry s)
        → marked (so_far hits old sources seen) (if passes then ps else []) ≡ so_far hits old sources (seen ++ entry ∷ [])
    more-so_far seen entry passes test ps is hit =
        marked-if (so_far hits old sources seen) (whole-so_far seen) passes test ps is
        ∙ or-more (λ s. list_any (λ e. hits e s) seen) (λ s. passes && test (all_values m s)) old sources
        ∙ zip-ext _ _ (λ s. ap (λ b. list_any (λ e. hits e s) seen || b) (hit s) ∙ any-push (λ e. hits e s) seen entry) old sources

    pub places-so_far : (seen : List E) (test : Values → Bool) (ps : List ℕ) → ps ≡ places test (map (all_values m) sources) → All (λ p. p < length (so_far hits old sources seen)) ps
    places-so_far seen test ps is = places-within m (so_far hits old sources seen) sources (whole-so_far seen) test ps is

  module _ (name : List ℕ) (test : Scalar → Bool) where
    -- at the end of a span of the dictionary that has all texts that pass, the documents with one of these
    pub texts-end : {Y : Type 0} (es : List (String Y × Places)) (q : String Y → Bool) → ((k : String Y) → test (text (string_bytes k)) ≡ true → q k ≡ true)
        → ((w : List ℕ) → option_map_or as_list (lookup (is_word w) es) [] ≡ places (has_term m.fields name (text w)) (map (all_values m) sources))
        → so_far (text_hit m name test) old sources (filter (λ e. q e.0) es)
        ≡ zip_with (λ b s. b || list_any (λ t. is_text t && test t) (terms_at m.fields (all_values m s) name)) old sources
    texts-end es q wide index =
        by_docs m name old sources (λ d. list_any (λ e. test (text (string_bytes e.0)) && has (terms_at m.fields d name) (text (string_bytes e.0))) (filter (λ e. q e.0) es)) (λ d. list_any (λ t. is_text t && test t) (terms_at m.fields d name))
        (map_same _ _ (map (all_values m) sources) (of_kind text string_bytes is_word word_is is_text text_made (λ w. refl) test (λ d. terms_at m.fields d name) (map (all_values m) sources) es index q wide))

    -- and the same of numbers
    pub longs-end : (es : List (ℤ × Places)) (q : ℤ → Bool) → ((z : ℤ) → test (long z) ≡ true → q z ≡ true)
        → ((z : ℤ) → option_map_or as_list (lookup (int_eq z) es) [] ≡ places (has_term m.fields name (long z)) (map (all_values m) sources))
        → so_far (long_hit m name test) old sources (filter (λ e. q e.0) es)
        ≡ zip_with (λ b s. b || list_any (λ t. is_long t && test t) (terms_at m.fields (all_values m s) name)) old sources
    longs-end es q wide index =
        by_docs m name old sources (λ d. list_any (λ e. test (long e.0) && has (terms_at m.fields d name) (long e.0)) (filter (λ e. q e.0) es)) (λ d. list_any (λ t. is_long t && test t) (terms_at m.fields d name))
        (map_same _ _ (map (all_values m) sources) (of_kind long (λ z. z) int_eq (λ y z is. (Decides-int_eq y z).0 is) is_long long_made (λ z. refl) test (λ d. terms_at m.fields d name) (map (all_values m) sources) es index q wide))

    -- the three kinds one after another
    pub kinds-end :
        zip_with (λ b s. b || list_any (λ t. is_truth t && test t) (terms_at m.fields (all_values m s) name))
        (zip_with (λ b s. b || list_any (λ t. is_long t && test t) (terms_at m.fields (all_values m s) name))
        (zip_with (λ b s. b || list_any (λ t. is_text t && test t) (terms_at m.fields (all_values m s) name)) old sources) sources) sources
        ≡ zip_with (λ b s. b || list_any test (terms_at m.fields (all_values m s) name)) old sources
    kinds-end =
        or-more (λ s. list_any (λ t. is_long t && test t) (terms_at m.fields (all_values m s) name)) (λ s. list_any (λ t. is_truth t && test t) (terms_at m.fields (all_values m s) name))
        (zip_with (λ b s. b || list_any (λ t. is_text t && test t) (terms_at m.fields (all_values m s) name)) old sources) sources
        ∙ or-more (λ s. list_any (λ t. is_text t && test t) (terms_at m.fields (all_values m s) name)) (λ s. list_any (λ t. is_long t && test t) (terms_at m.fields (all_values m s) name) || list_any (λ t. is_truth t && test t) (terms_at m.fields (all_values m s) name)) old sources
        ∙ zip-ext _ _ (λ s. sym (by_kinds test (terms_at m.fields (all_values m s) name))) old sources

module _ (m : MappingData) (sources : List (List ℕ)) where
  -- the marks of a truth value added, if it passes
  one_truth : (ms : List Bool) (passes : Bool) (test : Values → Bool) (others : List Bool) → others ≡ map test (map (all_values m) sources)
      → zip_with (λ a b. a || (passes && b)) ms others ≡ zip_with (λ b s. b || (passes && test (all_values m s))) ms sources
  one_truth ms passes test others is =
      ap (zip_with (λ a b. a || (passes && b)) ms) is ∙ zip-test (λ a b. a || (passes && b)) test ms (map (all_values m) sources)
      ∙ zip-map (all_values m) (λ b d. b || (passes && test d)) ms sources

  -- both truth values
  pub truths-end : (old : List Bool) → length old ≡ length sources → (name : List ℕ) (test : Scalar → Bool) (yea nay : Bool) (ys ns : List Bool) → yea ≡ test (flag true) → nay ≡ test (flag false)
      → ys ≡ map (has_term m.fields name (flag true)) (map (all_values m) sources) → ns ≡ map (has_term m.fields name (flag false)) (map (all_values m) sources)
      → (first second : List Bool) → first ≡ zip_with (λ a b. a || (yea && b)) old ys → second ≡ zip_with (λ a b. a || (nay && b)) first ns
      → second ≡ zip_with (λ b s. b || list_any (λ t. is_truth t && test t) (terms_at m.fields (all_values m s) name)) old sources
  truths-end old same name test yea nay ys ns is_yea is_nay y n first second one two =
      two ∙ one_truth first nay (has_term m.fields name (flag false)) ns n
      ∙ ap (λ (bs : List Bool). zip_with (λ b s. b || (nay && has_term m.fields name (flag false) (all_values m s))) bs sources) (one ∙ one_truth old yea (has_term m.fields name (flag true)) ys y)
      ∙ or-more (λ s. yea && has_term m.fields name (flag true) (all_values m s)) (λ s. nay && has_term m.fields name (flag false) (all_values m s)) old sources
      ∙ zip-ext _ _ (λ s. ap (λ a. (a && has_term m.fields name (flag true) (all_values m s)) || (nay && has_term m.fields name (flag false) (all_values m s))) is_yea
      ∙ ap (λ a. (test (flag true) && has_term m.fields name (flag true) (all_values m s)) || (a && has_term m.fields name (flag false) (all_values m s))) is_nay
      ∙ sym (truths test (terms_at m.fields (all_values m s) name))) old sources
