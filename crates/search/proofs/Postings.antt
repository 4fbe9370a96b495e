-- The live ones among listed places.
use Rattle.std.proofs.Common.{◌≡◌, ◌<◌, ℕ, ◌+◌, suc, Bool, true, false, ◌&&◌, ◌||◌, List, [], ◌∷◌, length, map, filter, refl, sym, ap, ◌∙◌, arith, get_or, All, if◌then◌else◌, subst, cond, String, Vec, Global, string_bytes}
use Rattle.std.specs.List.{list_any}
use Rattle.doc.specs.Mapping.{MappingData}
use Rattle.doc.specs.Scalar as spec
use Rattle.doc.specs.Scalar.{is_scalar}
use Rattle.doc.specs.ScalarView.{scalar_view, scalars_view}
use Rattle.doc.specs.declared.scalar.Scalar.{Scalar}
use Rattle.query.specs.Meaning.{has_tokens, means}
use Rattle.query.specs.View.{query_view}
use Rattle.query.specs.declared.query.Query.{Query}
use Rattle.query.specs.declared.query.Query.TheVariants.{Match}
use Rattle.analysis.specs.Terms.{has, is_one_of, terms}
use Rattle.query.specs.declared.query.Operator.{Operator}
use Rattle.query.specs.declared.query.Operator.TheVariants.{Or, And}
use Rattle.marks.specs.Lists.{zip_with, places, places_from}
use Rattle.segment.proofs.Steps.{places-below}
use Rattle.search.proofs.QueryViews.{view-match}

first_kept : (q : ℕ → Bool) (t l : Bool) (n : ℕ) (ps qs : List ℕ) → q n ≡ l → filter q ps ≡ qs → filter q (if t then n ∷ ps else ps) ≡ (if t && l then n ∷ qs else qs)
first_kept q true l n ps qs is same = ap (λ b. cond b (n ∷ filter q ps) (filter q ps)) is ∙ ap (λ rs. cond l (n ∷ rs) rs) same
first_kept q false l n ps qs is same = same

module _ {A : Type 0} (test : A → Bool) (all : List Bool) where
  live_from : (n : ℕ) (xs : List A) (live : List Bool) → length live ≡ length xs → ((k : ℕ) → get_or all (n + k) false ≡ get_or live k false)
      → filter (λ p. get_or all p false) (places_from test n xs) ≡ places_from (λ (b : Bool). b) n (zip_with (λ (m l : Bool). m && l) (map test xs) live)
  live_from n [] live same at = refl
  live_from n (x ∷ xs) [] same at = absurd (omega (arith, same))
  live_from n (x ∷ xs) (l ∷ live) same at =
      let here : n + 0 ≡ n = omega arith in
      first_kept (λ p. get_or all p false) (test x) l n _ _ (ap (λ p. get_or all p false) (sym here) ∙ at 0)
      (live_from (n + 1) xs live (omega (arith, same)) (λ k. let next : n + 1 + k ≡ n + suc k = omega arith in ap (λ p. get_or all p false) next ∙ at (suc k)))

-- the live ones among the places where a test passes
pub live-places : {A : Type 0} (test : A → Bool) (xs : List A) (live : List Bool) → length live ≡ length xs
    → filter (λ p. get_or live p false) (places test xs) ≡ places (λ (b : Bool). b) (zip_with (λ (m l : Bool). m && l) (map test xs) live)
live-places test xs live same = live_from test live 0 xs live same (λ k. let is : 0 + k ≡ k = omega arith in ap (λ p. get_or live p false) is)

-- each is a place of the marks
pub within-live : {A : Type 0} (test : A → Bool) (xs : List A) (live : List Bool) (ps : List ℕ) → length live ≡ length xs → ps ≡ places test xs → All (λ p. p < length live) ps
within-live test xs live ps same is = subst (λ qs. All (λ p. p < length live) qs) (sym is) (subst (λ n. All (λ p. p < n) (places test xs)) (sym same) (places-below test xs))

or_false : (b : Bool) → (b || false) ≡ b
or_false true = refl
or_false false = refl

and_true : (b : Bool) → (b && true) ≡ b
and_true true = refl
and_true false = refl

any_alone : (v : spec.Scalar) (ts : List spec.Scalar) → list_any (is_one_of (v ∷ [])) ts ≡ has ts v
any_alone v [] = refl
any_alone v (t ∷ ts) = ap (λ b. b || list_any (is_one_of (v ∷ [])) ts) (or_false (is_scalar v t)) ∙ ap (λ b. is_scalar v t || b) (any_alone v ts)

one_alone : (operator : Operator) (ts : List spec.Scalar) (v : spec.Scalar) → has_tokens operator ts (v ∷ []) ≡ has ts v
one_alone Or ts v = any_alone v ts
one_alone And ts v = and_true (has ts v)

-- one token alone is a term
alone : (operator : Operator) (ts : List spec.Scalar) (tokens : List Scalar) (token : Scalar) → length tokens ≡ 1 → token ≡ get_or tokens 0 token → has ts (scalar_view token) ≡ has_tokens operator ts (scalars_view tokens)
alone operator ts [] token one is = absurd (omega (arith, one))
alone operator ts (t ∷ []) token one is = ap (λ x. has ts (scalar_view x)) is ∙ sym (one_alone operator ts (scalar_view t))
alone operator ts (t ∷ u ∷ us) token one is = absurd (omega (arith, one))

-- so the documents of a `match` of one token are those of a term
pub alone-in : (m : MappingData) (name : List ℕ) (query : Query) (field : String Global) (operator : Operator) (tokens : Vec Scalar Global) (token : Scalar)
    → query ≡ Match field operator tokens → name ≡ string_bytes field → tokens.len ≡ 1 → token ≡ get_or tokens.items 0 token → (s : List ℕ)
    → has (terms m s name) (scalar_view token) ≡ means m s (query_view query)
alone-in m name query field operator tokens token is named one first s =
    ap (λ n. has (terms m s n) (scalar_view token)) named ∙ alone operator (terms m s (string_bytes field)) tokens.items token (sym tokens.ok.0 ∙ one) first ∙ ap (λ q. means m s q) (sym (ap query_view is ∙ view-match field operator tokens))
