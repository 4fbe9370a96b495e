-- The terms of one kind that pass a test, by the keys of their dictionary.
use Rattle.std.proofs.Common.{◌≡◌, ℕ, ℤ, Bool, true, false, ◌&&◌, ◌||◌, ◌∷◌, List, [], refl, sym, ap, ◌∙◌, subst, true≢false, None, filter}
use Rattle.std.specs.List.{list_any, AllByRecursion}
use Rattle.std.specs.Map.{keys_of, lookup}
use Rattle.std.specs.Option.{option_map_or}
use Rattle.std.specs.Cmp.Lexicographic.{bytes_decides, nat_list_eq_equiv}
use Rattle.std.specs.Cmp.{int_eq_equiv}
use Rattle.std.proofs.lemmas.Bool.Decides.{Decides-int_eq}
use Rattle.std.proofs.lemmas.Map.Made.{is_some-lookup}
use Rattle.doc.specs.Scalar.{Scalar, text, long, flag, is_scalar}
use Rattle.analysis.specs.Terms.{has}
use Rattle.marks.specs.Lists.{places}
use Rattle.segment.specs.Term.{is_text, is_long, is_truth}
use Rattle.segment.specs.Places.{as_list}
use Rattle.segment.specs.declared.places.Places.{Places}
use Rattle.segment.proofs.Prefixes.{any_kept}
use Rattle.segment.proofs.SpanLaws.{left, right}
use Rattle.segment.proofs.Listed.{bool_same, none_there, none_pass, every, always, swapped}

-- the same scalar by its test
pub same_scalar : (u t : Scalar) → is_scalar u t ≡ true → u ≡ t
same_scalar (text s) (text t) is = ap text ((bytes_decides s t).0 is)
same_scalar (text s) (long z) is = absurd (true≢false (sym is))
same_scalar (text s) (flag b) is = absurd (true≢false (sym is))
same_scalar (long y) (text t) is = absurd (true≢false (sym is))
same_scalar (long y) (long z) is = ap long ((Decides-int_eq y z).0 is)
same_scalar (long y) (flag b) is = absurd (true≢false (sym is))
same_scalar (flag a) (text t) is = absurd (true≢false (sym is))
same_scalar (flag a) (long z) is = absurd (true≢false (sym is))
same_scalar (flag true) (flag true) is = refl
same_scalar (flag true) (flag false) is = absurd (true≢false (sym is))
same_scalar (flag false) (flag true) is = absurd (true≢false (sym is))
same_scalar (flag false) (flag false) is = refl

pub itself : (t : Scalar) → is_scalar t t ≡ true
itself (text s) = nat_list_eq_equiv.refl s
itself (long z) = int_eq_equiv.refl z
itself (flag true) = refl
itself (flag false) = refl

or-true : (a : Bool) → (a || true) ≡ true
or-true true = refl
or-true false = refl

both : (a b : Bool) → a ≡ true → b ≡ true → (a && b) ≡ true
both true b p q = q
both false b p q = p

-- one of two
one_of : {G : Type 0} (a b : Bool) → (a || b) ≡ true → (a ≡ true → G) → (b ≡ true → G) → G
one_of true b is f g = f refl
one_of false b is f g = g is

first : (a b : Bool) → a ≡ true → (a || b) ≡ true
first a b is = ap (λ c. c || b) is

later : (a b : Bool) → b ≡ true → (a || b) ≡ true
later a b is = ap (λ c. a || c) is ∙ or-true a

-- a term that is there and passes
has_any : (u : Scalar) (p : Scalar → Bool) → p u ≡ true → (ts : List Scalar) → has ts u ≡ true → list_any p ts ≡ true
has_any u p passes [] is = absurd (true≢false (sym is))
has_any u p passes (t ∷ ts) is = one_of (is_scalar u t) (has ts u) is
    (λ same. first (p t) (list_any p ts) (subst (λ v. p v ≡ true) (same_scalar u t same) passes))
    (λ more. later (p t) (list_any p ts) (has_any u p passes ts more))

any_is : (p : Scalar → Bool) (ts : List Scalar) → list_any p ts ≡ true → (t : Scalar) × (p t ≡ true) × (has ts t ≡ true)
any_is p [] is = absurd (true≢false (sym is))
any_is p (t ∷ ts) is = one_of (p t) (list_any p ts) is
    (λ here. (t, here, first (is_scalar t t) (has ts t) (itself t)))
    (λ more. let r = any_is p ts more in (r.0, r.1, later (is_scalar r.0 t) (has ts r.0) r.2))

module _ {K W : Type 0} (of : W → Scalar) (key : K → W) (at : W → K → Bool) (at_is : (w : W) (k : K) → at w k ≡ true → w ≡ key k)
    (is_kind : Scalar → Bool) (made : (t : Scalar) → is_kind t ≡ true → (w : W) × (t ≡ of w)) (kind : (w : W) → is_kind (of w) ≡ true) (test : Scalar → Bool) where
  -- whether the entry's key passes and is among the terms
  abbrev pub hit : List Scalar → K × Places → Bool
  hit ts e = test (of (key e.0)) && has ts (of (key e.0))

  sound : (ts : List Scalar) (es : List (K × Places)) → list_any (hit ts) es ≡ true → list_any (λ t. is_kind t && test t) ts ≡ true
  sound ts [] is = absurd (true≢false (sym is))
  sound ts (e ∷ es) is = one_of (hit ts e) (list_any (hit ts) es) is
      (λ here. has_any (of (key e.0)) (λ t. is_kind t && test t) (both _ _ (kind (key e.0)) (left _ _ here)) ts (right _ _ here))
      (λ more. sound ts es more)

  key_hit : (ts : List Scalar) (w : W) → test (of w) ≡ true → has ts (of w) ≡ true → (es : List (K × Places)) → list_any (at w) (keys_of es) ≡ true → list_any (hit ts) es ≡ true
  key_hit ts w passes has_it [] is = absurd (true≢false (sym is))
  key_hit ts w passes has_it (e ∷ es) is = one_of (at w e.0) (list_any (at w) (keys_of es)) is
      (λ here. let P : W → Type 0 = λ v. (test (of v) && has ts (of v)) ≡ true in first (hit ts e) (list_any (hit ts) es) (subst P (at_is w e.0 here) (both _ _ passes has_it)))
      (λ more. later (hit ts e) (list_any (hit ts) es) (key_hit ts w passes has_it es more))

  complete : (ts : List Scalar) (es : List (K × Places)) → ((w : W) → test (of w) ≡ true → has ts (of w) ≡ true → list_any (at w) (keys_of es) ≡ true) → list_any (λ t. is_kind t && test t) ts ≡ true → list_any (hit ts) es ≡ true
  complete ts es listed some =
      let r = any_is (λ t. is_kind t && test t) ts some in
      let w = made r.0 (left _ _ r.1) in
      let has_it : has ts (of w.0) ≡ true = subst (λ t. has ts t ≡ true) w.1 r.2 in
      let passes : test (of w.0) ≡ true = subst (λ t. test t ≡ true) w.1 (right _ _ r.1) in
      key_hit ts w.0 passes has_it es (listed w.0 passes has_it)

  module _ {A : Type 0} (terms : A → List Scalar) (docs : List A) (es : List (K × Places))
      (index : (w : W) → option_map_or as_list (lookup (at w) es) [] ≡ places (λ d. has (terms d) (of w)) docs) where
    by_key : (w : W) (b : Bool) → list_any (at w) (keys_of es) ≡ b → AllByRecursion (λ d. has (terms d) (of w) ≡ true → list_any (at w) (keys_of es) ≡ true) docs
    by_key w true is = always (λ d has. is) docs
    by_key w false is =
        let gone : lookup (at w) es ≡ None = none_there _ (is_some-lookup (at w) es ∙ is) in
        let empty : places (λ d. has (terms d) (of w)) docs ≡ [] = sym (index w) ∙ ap (λ o. option_map_or as_list o []) gone in
        every (λ d not has. absurd (true≢false (sym has ∙ not))) docs (none_pass (λ d. has (terms d) (of w)) 0 docs empty)

    -- each term of the kind is a key, so the keys that pass find the documents that have a term that does; keys that don't pass may be left out
    pub of_kind : (q : K → Bool) → ((k : K) → test (of (key k)) ≡ true → q k ≡ true) → AllByRecursion (λ d. list_any (hit (terms d)) (filter (λ e. q e.0) es) ≡ list_any (λ t. is_kind t && test t) (terms d)) docs
    of_kind q wide =
        let kept = filter (λ (e : K × Places). q e.0) es in
        let still = λ (w : W) (passes : test (of w) ≡ true). any_kept (at w) q (λ k is. wide k (subst (λ v. test (of v) ≡ true) (at_is w k is) passes)) es in
        every (λ d listed. bool_same _ _ (sound (terms d) kept) (complete (terms d) kept (λ w passes has_it. still w passes ∙ listed w has_it))) docs
        (swapped (λ (w : W) (d : A). has (terms d) (of w) ≡ true → list_any (at w) (keys_of es) ≡ true) docs (λ w. by_key w (list_any (at w) (keys_of es)) refl))

-- ---- the three kinds

pub text_made : (t : Scalar) → is_text t ≡ true → (w : List ℕ) × (t ≡ text w)
text_made (text s) is = (s, refl)
text_made (long z) is = absurd (true≢false (sym is))
text_made (flag b) is = absurd (true≢false (sym is))

pub long_made : (t : Scalar) → is_long t ≡ true → (z : ℤ) × (t ≡ long z)
long_made (text s) is = absurd (true≢false (sym is))
long_made (long z) is = (z, refl)
long_made (flag b) is = absurd (true≢false (sym is))

regroup : (a b c x y z : Bool) → ((a || (b || c)) || (x || (y || z))) ≡ ((a || x) || ((b || y) || (c || z)))
regroup true b c x y z = refl
regroup false true c true y z = refl
regroup false true c false y z = refl
regroup false false true true y z = refl
regroup false false true false true z = refl
regroup false false true false false z = refl
regroup false false false x y z = refl

or_none : (p : Bool) → (p || (false || false)) ≡ p
or_none true = refl
or_none false = refl

kinds_of : (t : Scalar) (p : Bool) → ((is_text t && p) || ((is_long t && p) || (is_truth t && p))) ≡ p
kinds_of (text s) p = or_none p
kinds_of (long z) true = refl
kinds_of (long z) false = refl
kinds_of (flag b) p = refl

-- some term passes where one of some kind does
pub by_kinds : (test : Scalar → Bool) (ts : List Scalar) → list_any test ts ≡ (list_any (λ t. is_text t && test t) ts || (list_any (λ t. is_long t && test t) ts || list_any (λ t. is_truth t && test t) ts))
by_kinds test [] = refl
by_kinds test (t ∷ ts) =
    let texts = list_any (λ t. is_text t && test t) ts in
    let longs = list_any (λ t. is_long t && test t) ts in
    let truths = list_any (λ t. is_truth t && test t) ts in
    ap (λ b. test t || b) (by_kinds test ts)
    ∙ ap (λ b. b || (texts || (longs || truths))) (sym (kinds_of t (test t)))
    ∙ regroup (is_text t && test t) (is_long t && test t) (is_truth t && test t) texts longs truths

with_true : (t f h k : Bool) → (t || ((t && h) || (f && k))) ≡ ((t && true) || (f && k))
with_true true f h k = refl
with_true false f h k = refl

with_false : (b f k : Bool) → (f || (b || (f && k))) ≡ (b || (f && true))
with_false b true k = sym (or-true b)
with_false b false k = refl

-- the truth values that pass
pub truths : (test : Scalar → Bool) (ts : List Scalar) → list_any (λ t. is_truth t && test t) ts ≡ ((test (flag true) && has ts (flag true)) || (test (flag false) && has ts (flag false)))
truths test [] = sym (none (test (flag true)) (test (flag false)))
  where
    none : (a b : Bool) → ((a && false) || (b && false)) ≡ false
    none true true = refl
    none true false = refl
    none false true = refl
    none false false = refl
truths test (text s ∷ ts) = truths test ts
truths test (long z ∷ ts) = truths test ts
truths test (flag true ∷ ts) = ap (λ b. test (flag true) || b) (truths test ts) ∙ with_true (test (flag true)) (test (flag false)) (has ts (flag true)) (has ts (flag false))
truths test (flag false ∷ ts) = ap (λ b. test (flag false) || b) (truths test ts) ∙ with_false (test (flag true) && has ts (flag true)) (test (flag false)) (has ts (flag false))
