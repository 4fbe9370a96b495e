-- Lemmas for what is not written yet: prefixes, building, finding.
use Rattle.std.proofs.Common.{◌≡◌, ◌<◌, ℕ, ◌+◌, Bool, true, false, ◌&&◌, ◌||◌, List, [], ◌∷◌, ◌++◌, map, refl, sym, ap, ◌∙◌, All, if◌then◌else◌, zip, append-nil, nat_eq}
use Rattle.std.proofs.lemmas.List.Folds.{list_any-append}
use Rattle.std.specs.List.{list_any, starts_with}
use Rattle.std.specs.Str.{bytes_eq}
use Rattle.doc.specs.Scalar.{Scalar, text, long, flag, is_scalar}
use Rattle.analysis.specs.Terms.{has, begins_with}
use Rattle.marks.specs.Lists.{zip_with, places, places_from}
use Rattle.segment.specs.Places.{added, ends_at, one_if, has_word, has_prefix}
use Rattle.segment.specs.Posted.{with_if}
use Rattle.segment.proofs.Ends.{ends_at-push, ends_at-below}

-- the texts among terms
abbrev pub words_in : List Scalar → List (List ℕ)
words_in [] = []
words_in (text s ∷ ts) = s ∷ words_in ts
words_in (long z ∷ ts) = words_in ts
words_in (flag b ∷ ts) = words_in ts

pub has-words : (ts : List Scalar) (w : List ℕ) → has ts (text w) ≡ has_word w (words_in ts)
has-words [] w = refl
has-words (text s ∷ ts) w = ap (λ b. bytes_eq w s || b) (has-words ts w)
has-words (long z ∷ ts) w = has-words ts w
has-words (flag b ∷ ts) w = has-words ts w

pub begins-words : (p : List ℕ) (ts : List Scalar) → list_any (begins_with p) ts ≡ has_prefix p (words_in ts)
begins-words p [] = refl
begins-words p (text s ∷ ts) = ap (λ b. starts_with nat_eq s p || b) (begins-words p ts)
begins-words p (long z ∷ ts) = begins-words p ts
begins-words p (flag b ∷ ts) = begins-words p ts

pub has-append : (ts us : List Scalar) (v : Scalar) → has (ts ++ us) v ≡ (has ts v || has us v)
has-append ts us v = list_any-append (is_scalar v) ts us

again : (at : ℕ) (ps : List ℕ) (b : Bool) → ends_at at ps ≡ b → added (added ps at) at ≡ added ps at
again at ps true ends = ap (λ b. added (if b then ps else ps ++ at ∷ []) at) ends ∙ ap (λ b. if b then ps else ps ++ at ∷ []) ends ∙ sym (ap (λ b. if b then ps else ps ++ at ∷ []) ends)
again at ps false ends = ap (λ b. added (if b then ps else ps ++ at ∷ []) at) ends ∙ ap (λ b. if b then ps ++ at ∷ [] else (ps ++ at ∷ []) ++ at ∷ []) (ends_at-push at ps) ∙ sym (ap (λ b. if b then ps else ps ++ at ∷ []) ends)

pub with_if-twice : (a b : Bool) (at : ℕ) (ps : List ℕ) → with_if b at (with_if a at ps) ≡ with_if (a || b) at ps
with_if-twice true true at ps = again at ps (ends_at at ps) refl
with_if-twice true false at ps = refl
with_if-twice false b at ps = refl

pub with_if-below : (b : Bool) (at : ℕ) (ps : List ℕ) → All (λ p. p < at) ps → with_if b at ps ≡ ps ++ one_if b at
with_if-below true at ps below = ap (λ e. if e then ps else ps ++ at ∷ []) (ends_at-below at ps below)
with_if-below false at ps below = sym (append-nil ps)

first_if : (b : Bool) (n : ℕ) (ps qs : List ℕ) → ps ≡ qs → (if b then n ∷ ps else ps) ≡ (if b then n ∷ qs else qs)
first_if true n ps qs same = ap (λ rs. n ∷ rs) same
first_if false n ps qs same = same

module _ {A B : Type 0} (p : B → Bool) (f : A → B) where
  places_from-map : (n : ℕ) (xs : List A) → places_from p n (map f xs) ≡ places_from (λ x. p (f x)) n xs
  places_from-map n [] = refl
  places_from-map n (x ∷ xs) = first_if (p (f x)) n _ _ (places_from-map (n + 1) xs)

  pub places-map : (xs : List A) → places p (map f xs) ≡ places (λ x. p (f x)) xs
  places-map xs = places_from-map 0 xs

module _ {A : Type 0} (test : A → Bool) where
  places_from-zip : (n : ℕ) (live : List Bool) (xs : List A) → places_from (λ (b : Bool). b) n (zip_with (λ l x. l && test x) live xs) ≡ places_from (λ (e : Bool × A). e.0 && test e.1) n (zip live xs)
  places_from-zip n [] xs = refl
  places_from-zip n (l ∷ live) [] = refl
  places_from-zip n (l ∷ live) (x ∷ xs) = first_if (l && test x) n _ _ (places_from-zip (n + 1) live xs)

  -- what `find` gives, from marks and from the documents
  pub places-zip : (live : List Bool) (xs : List A) → places (λ (b : Bool). b) (zip_with (λ l x. l && test x) live xs) ≡ places (λ (e : Bool × A). e.0 && test e.1) (zip live xs)
  places-zip live xs = places_from-zip 0 live xs
