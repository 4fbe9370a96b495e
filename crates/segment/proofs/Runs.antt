-- The documents of the words so far, marked.
use Rattle.std.proofs.Common.{◌≡◌, ℕ, Bool, true, false, ◌||◌, ◌∷◌, List, [], ◌++◌, length, map, refl, sym, ap, ◌∙◌, ◌+◌, String, string_bytes, filter, nat_eq, if◌then◌else◌}
use Rattle.std.specs.List.{list_any, list_all, starts_with}
use Rattle.std.specs.Map.{keys_of, lookup}
use Rattle.std.specs.Option.{option_map_or}
use Rattle.std.specs.Ordering.{is_le, nat_cmp}
use Rattle.std.specs.Cmp.Lexicographic.{slice_cmp}
use Rattle.doc.specs.Mapping.{MappingData}
use Rattle.doc.specs.Scalar.{text}
use Rattle.doc.specs.Document.{Values, all_values}
use Rattle.analysis.specs.Terms.{terms_at, begins_with}
use Rattle.marks.specs.Lists.{zip_with, places, places_from}
use Rattle.segment.specs.Indexed.{has_term}
use Rattle.segment.specs.Places.{as_list, has_word, has_prefix}
use Rattle.segment.specs.declared.places.Places.{Places}
use Rattle.segment.proofs.Ahead.{words_in, has-words, begins-words}
use Rattle.segment.proofs.Joins.{or-more, or-end}
use Rattle.segment.proofs.Zips.{zip-test, zip-map}
use Rattle.segment.proofs.Prefixes.{is_word, pre}
use Rattle.segment.proofs.Listed.{marked-prefix, any-push}

pub zip-ext : {A : Type 0} (f g : A → Bool) → ((x : A) → f x ≡ g x) → (bs : List Bool) (xs : List A) → zip_with (λ b x. b || f x) bs xs ≡ zip_with (λ b x. b || g x) bs xs
zip-ext f g same [] xs = refl
zip-ext f g same (b ∷ bs) [] = refl
zip-ext f g same (b ∷ bs) (x ∷ xs) = ap (λ c. (b || c) ∷ zip_with (λ b x. b || f x) bs xs) (same x) ∙ ap (λ cs. (b || g x) ∷ cs) (zip-ext f g same bs xs)

first_same : (b c : Bool) (n : ℕ) (ps qs : List ℕ) → b ≡ c → ps ≡ qs → (if b then n ∷ ps else ps) ≡ (if c then n ∷ qs else qs)
first_same b c n ps qs is same = ap (λ d. if d then n ∷ ps else ps) is ∙ ap (λ rs. if c then n ∷ rs else rs) same

places_from-ext : {A : Type 0} (f g : A → Bool) → ((x : A) → f x ≡ g x) → (n : ℕ) (xs : List A) → places_from f n xs ≡ places_from g n xs
places_from-ext f g same n [] = refl
places_from-ext f g same n (x ∷ xs) = first_same (f x) (g x) n _ _ (same x) (places_from-ext f g same (n + 1) xs)

module _ (m : MappingData) (name : List ℕ) where
  -- the words among the terms of a document
  abbrev pub words : Values → List (List ℕ)
  words d = words_in (terms_at m.fields d name)

  -- the column of the field has the words of each document
  pub index : {Y : Type 0} (docs : List Values) (es : List (String Y × Places))
      → ((w : List ℕ) → option_map_or as_list (lookup (is_word w) es) [] ≡ places (has_term m.fields name (text w)) docs)
      → (w : List ℕ) → option_map_or as_list (lookup (is_word w) es) [] ≡ places (λ d. has_word w (words d)) docs
  index docs es is w = is w ∙ places_from-ext (has_term m.fields name (text w)) (λ d. has_word w (words d)) (λ d. has-words (terms_at m.fields d name) w) 0 docs

  -- the documents of the entries so far are marked
  abbrev pub seen_marks : {Y : Type 0} → List Bool → List (List ℕ) → List (String Y × Places) → List Bool
  seen_marks old sources seen = zip_with (λ b s. b || list_any (λ e. has_word (string_bytes e.0) (words (all_values m s))) seen) old sources

  module _ (old : List Bool) (sources : List (List ℕ)) where
    pub none-seen : length old ≡ length sources → old ≡ zip_with (λ b s. b || false) old sources
    none-seen same = sym (or-end old sources same)

    -- one entry more
    pub more-seen : {Y : Type 0} (seen : List (String Y × Places)) (entry : String Y × Places) →
        zip_with (λ b s. b || has_word (string_bytes entry.0) (words (all_values m s))) (seen_marks old sources seen) sources ≡ seen_marks old sources (seen ++ entry ∷ [])
    more-seen seen entry =
        or-more (λ s. list_any (λ e. has_word (string_bytes e.0) (words (all_values m s))) seen) (λ s. has_word (string_bytes entry.0) (words (all_values m s))) old sources
        ∙ zip-ext _ _ (λ s. any-push (λ e. has_word (string_bytes e.0) (words (all_values m s))) seen entry) old sources

    -- marks of one test and of another that each document answers alike
    pub by_docs : (f g : Values → Bool) → map f (map (all_values m) sources) ≡ map g (map (all_values m) sources) → zip_with (λ b s. b || f (all_values m s)) old sources ≡ zip_with (λ b s. b || g (all_values m s)) old sources
    by_docs f g alike =
        sym (zip-map (all_values m) (λ b d. b || f d) old sources)
        ∙ sym (zip-test (λ a b. a || b) f old (map (all_values m) sources))
        ∙ ap (zip_with (λ a b. a || b) old) alike
        ∙ zip-test (λ a b. a || b) g old (map (all_values m) sources)
        ∙ zip-map (all_values m) (λ b d. b || g d) old sources

    -- at the end of the run of a prefix, those with a term that begins with it
    pub prefix-seen : {Y : Type 0} (es : List (String Y × Places))
        → ((w : List ℕ) → option_map_or as_list (lookup (is_word w) es) [] ≡ places (has_term m.fields name (text w)) (map (all_values m) sources))
        → (p : List ℕ) (q : String Y → Bool) → ((k : String Y) → is_le (slice_cmp nat_cmp p (string_bytes k)) ≡ true → q k ≡ true) → (seen rest : List (String Y × Places)) → filter (λ e. q e.0) es ≡ seen ++ rest
        → ((w : List ℕ) → starts_with nat_eq w p ≡ true → list_any (is_word w) (keys_of rest) ≡ false) → list_all (pre p) seen ≡ true
        → seen_marks old sources seen ≡ zip_with (λ b s. b || list_any (begins_with p) (terms_at m.fields (all_values m s) name)) old sources
    prefix-seen es is p q passes seen rest parted none all =
        by_docs (λ d. list_any (λ e. has_word (string_bytes e.0) (words d)) seen) (λ d. has_prefix p (words d))
        (marked-prefix words (map (all_values m) sources) es (index (map (all_values m) sources) es is) p q passes seen rest parted none all)
        ∙ zip-ext _ _ (λ s. sym (begins-words p (terms_at m.fields (all_values m s) name))) old sources
