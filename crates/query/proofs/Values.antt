-- Values, each once.
use Rattle.std.proofs.Common.{◌≡◌, ℕ, Bool, true, false, not, ◌&&◌, ◌||◌, cond, List, [], ◌∷◌, ◌++◌, length, refl, sym, ap, ◌∙◌, arith, true≢false, String, Global}
use Rattle.std.specs.Prelude.{nat_lt}
use Rattle.std.specs.List.{list_any, list_all}
use Rattle.std.specs.BTreeSet.{BTreeSet, contains_text}
use Rattle.std.specs.Str.{bytes_eq}
use Rattle.std.proofs.lemmas.List.Folds.{list_any-append}
use Rattle.std.specs.Cmp.Lexicographic.{bytes_decides, nat_list_eq_equiv}
use Rattle.std.specs.Cmp.{int_eq_equiv}
use Rattle.std.proofs.lemmas.Bool.Decides.{Decides-int_eq, nat_tests}
use Rattle.doc.specs.Scalar.{Scalar, text, long, flag, is_scalar}
use Rattle.query.specs.Distinct.{with_value, distinct_after, distinct}
use Rattle.query.specs.SeenView.{has_seen}
use Rattle.query.specs.declared.seen.Seen.{Seen}
use Rattle.query.specs.Meaning.{has_tokens}
use Rattle.query.specs.declared.query.Operator.{Operator}
use Rattle.query.specs.declared.query.Operator.TheVariants.{Or, And}
use Rattle.analysis.specs.Terms.{has, is_one_of}

set_or : (a b : Bool) → cond a true b ≡ (a || b)
set_or true b = refl
set_or false b = refl

-- a text more
pub one_text : (s : Seen) (texts : BTreeSet (String Global)) (bs : List ℕ) → ((cs : List ℕ) → contains_text texts cs ≡ cond (bytes_eq bs cs) true (contains_text s.texts cs))
    → (v : Scalar) → has_seen (record s { texts = texts }) v ≡ (is_scalar (text bs) v || has_seen s v)
one_text s texts bs h (text cs) = h cs ∙ set_or (bytes_eq bs cs) (contains_text s.texts cs)
one_text s texts bs h (long z) = refl
one_text s texts bs h (flag true) = refl
one_text s texts bs h (flag false) = refl

same_scalar : (u t : Scalar) → is_scalar u t ≡ true → u ≡ t
same_scalar (text s) (text t) is = ap text ((bytes_decides s t).0 is)
same_scalar (text s) (long z) is = absurd (true≢false (sym is))
same_scalar (text s) (flag b) is = absurd (true≢false (sym is))
same_scalar (long y) (text t) is = absurd (true≢false (sym is))
same_scalar (long y) (long z) is = ap long ((Decides-int_eq y z).0 is)
same_scalar (long y) (flag b) is = absurd (true≢false (sym is))
same_scalar (flag a) (text t) is = absurd (true≢false (sym is))
same_scalar (flag a) (long z) is = absurd (true≢false (sym is))
same_scalar (flag true) (flag true) is = refl
same_scalar (flag true) (flag false) is = absurd (true≢false (sym is))
same_scalar (flag false) (flag true) is = absurd (true≢false (sym is))
same_scalar (flag false) (flag false) is = refl

swapped : (u t : Scalar) → is_scalar u t ≡ is_scalar t u
swapped (text s) (text t) = nat_list_eq_equiv.symm s t
swapped (text s) (long z) = refl
swapped (text s) (flag b) = refl
swapped (long y) (text t) = refl
swapped (long y) (long z) = int_eq_equiv.symm y z
swapped (long y) (flag b) = refl
swapped (flag a) (text t) = refl
swapped (flag a) (long z) = refl
swapped (flag true) (flag true) = refl
swapped (flag true) (flag false) = refl
swapped (flag false) (flag true) = refl
swapped (flag false) (flag false) = refl

or_end : (a b : Bool) → (a || (b || false)) ≡ (b || a)
or_end true true = refl
or_end true false = refl
or_end false true = refl
or_end false false = refl

-- a value more is among them
pub has_more : (found : List Scalar) (v w : Scalar) → has (found ++ v ∷ []) w ≡ (is_scalar v w || has found w)
has_more found v w = list_any-append (is_scalar w) found (v ∷ []) ∙ or_end (has found w) (is_scalar w v) ∙ ap (λ b. b || has found w) (swapped w v)

-- a new value stands after the others
pub is_new : (found : List Scalar) (v : Scalar) → has found v ≡ false → with_value found v ≡ found ++ v ∷ []
is_new found v is = ap (λ b. cond b found (found ++ v ∷ [])) is

pub is_old : (found : List Scalar) (v : Scalar) → has found v ≡ true → with_value found v ≡ found
is_old found v is = ap (λ b. cond b found (found ++ v ∷ [])) is

negated : (b : Bool) → true ≡ not b → b ≡ false
negated true is = absurd (true≢false is)
negated false is = refl

kept : (b : Bool) → false ≡ not b → b ≡ true
kept true is = refl
kept false is = absurd (true≢false (sym is))

-- one turn of the loop, with a value that is new
pub new_turn : (seen : Scalar → Bool) (found : List Scalar) (v : Scalar) (vs all : List Scalar) → ((w : Scalar) → seen w ≡ has found w) → true ≡ not (seen v)
    → distinct_after found (v ∷ vs) ≡ all → distinct_after (found ++ v ∷ []) vs ≡ all
new_turn seen found v vs all same new h = ap (λ f. distinct_after f vs) (sym (is_new found v (sym (same v) ∙ negated (seen v) new))) ∙ h

pub old_turn : (seen : Scalar → Bool) (found : List Scalar) (v : Scalar) (vs all : List Scalar) → ((w : Scalar) → seen w ≡ has found w) → false ≡ not (seen v)
    → distinct_after found (v ∷ vs) ≡ all → distinct_after found vs ≡ all
old_turn seen found v vs all same old h = ap (λ f. distinct_after f vs) (sym (is_old found v (sym (same v) ∙ kept (seen v) old))) ∙ h

-- ---- what a value that stands twice adds to a test

or_false : (b : Bool) → (b || false) ≡ b
or_false true = refl
or_false false = refl

and_true : (b : Bool) → (b && true) ≡ b
and_true true = refl
and_true false = refl

or_again : (a b : Bool) → ((a || b) || a) ≡ (a || b)
or_again true b = refl
or_again false b = or_false b

and_again : (a b : Bool) → ((a && b) && a) ≡ (a && b)
and_again true b = and_true b
and_again false b = refl

or_moves : (a b c : Bool) → ((a || b) || c) ≡ (a || (b || c))
or_moves true b c = refl
or_moves false b c = refl

and_moves : (a b c : Bool) → ((a && b) && c) ≡ (a && (b && c))
and_moves true b c = refl
and_moves false b c = refl

module _ (p : Scalar → Bool) where
  any_again : (found : List Scalar) (v : Scalar) → has found v ≡ true → (list_any p found || p v) ≡ list_any p found
  any_again [] v is = absurd (true≢false (sym is))
  any_again (t ∷ ts) v is = here (is_scalar v t) refl
      (λ other. any_again ts v (ap (λ b. b || has ts v) (sym other) ∙ is))
    where
      here : (b : Bool) → is_scalar v t ≡ b → (is_scalar v t ≡ false → (list_any p ts || p v) ≡ list_any p ts) → (list_any p (t ∷ ts) || p v) ≡ list_any p (t ∷ ts)
      here true same rest = ap (λ w. (p t || list_any p ts) || p w) (same_scalar v t same) ∙ or_again (p t) (list_any p ts)
      here false other rest = or_moves (p t) (list_any p ts) (p v) ∙ ap (λ b. p t || b) (rest other)

  all_again : (found : List Scalar) (v : Scalar) → has found v ≡ true → (list_all p found && p v) ≡ list_all p found
  all_again [] v is = absurd (true≢false (sym is))
  all_again (t ∷ ts) v is = here (is_scalar v t) refl
      (λ other. all_again ts v (ap (λ b. b || has ts v) (sym other) ∙ is))
    where
      here : (b : Bool) → is_scalar v t ≡ b → (is_scalar v t ≡ false → (list_all p ts && p v) ≡ list_all p ts) → (list_all p (t ∷ ts) && p v) ≡ list_all p (t ∷ ts)
      here true same rest = ap (λ w. (p t && list_all p ts) && p w) (same_scalar v t same) ∙ and_again (p t) (list_all p ts)
      here false other rest = and_moves (p t) (list_all p ts) (p v) ∙ ap (λ b. p t && b) (rest other)

  any_with : (found : List Scalar) (v : Scalar) → list_any p (with_value found v) ≡ (list_any p found || p v)
  any_with found v = here (has found v) refl
    where
      here : (b : Bool) → has found v ≡ b → list_any p (with_value found v) ≡ (list_any p found || p v)
      here true old = ap (list_any p) (is_old found v old) ∙ sym (any_again found v old)
      here false new = ap (list_any p) (is_new found v new) ∙ list_any-append p found (v ∷ []) ∙ ap (λ b. list_any p found || b) (or_false (p v))

  all_append : (xs ys : List Scalar) → list_all p (xs ++ ys) ≡ (list_all p xs && list_all p ys)
  all_append [] ys = refl
  all_append (x ∷ xs) ys = ap (λ b. p x && b) (all_append xs ys) ∙ sym (and_moves (p x) (list_all p xs) (list_all p ys))

  all_with : (found : List Scalar) (v : Scalar) → list_all p (with_value found v) ≡ (list_all p found && p v)
  all_with found v = here (has found v) refl
    where
      here : (b : Bool) → has found v ≡ b → list_all p (with_value found v) ≡ (list_all p found && p v)
      here true old = ap (list_all p) (is_old found v old) ∙ sym (all_again found v old)
      here false new = ap (list_all p) (is_new found v new) ∙ all_append found (v ∷ []) ∙ ap (λ b. list_all p found && b) (and_true (p v))

  any_after : (found vs : List Scalar) → list_any p (distinct_after found vs) ≡ (list_any p found || list_any p vs)
  any_after found [] = sym (or_false (list_any p found))
  any_after found (v ∷ vs) = any_after (with_value found v) vs ∙ ap (λ b. b || list_any p vs) (any_with found v) ∙ or_moves (list_any p found) (p v) (list_any p vs)

  all_after : (found vs : List Scalar) → list_all p (distinct_after found vs) ≡ (list_all p found && list_all p vs)
  all_after found [] = sym (and_true (list_all p found))
  all_after found (v ∷ vs) = all_after (with_value found v) vs ∙ ap (λ b. b && list_all p vs) (all_with found v) ∙ and_moves (list_all p found) (p v) (list_all p vs)

has_any : (vs : List Scalar) → nat_lt 0 (length vs) ≡ list_any (λ v. true) vs
has_any [] = grind (arith, nat_tests)
has_any (v ∷ vs) = grind (arith, nat_tests)

any_same : (p q : Scalar → Bool) → ((t : Scalar) → p t ≡ q t) → (ts : List Scalar) → list_any p ts ≡ list_any q ts
any_same p q same [] = refl
any_same p q same (t ∷ ts) = ap (λ b. b || list_any p ts) (same t) ∙ ap (λ b. q t || b) (any_same p q same ts)

pub one_of_distinct : (vs ts : List Scalar) → list_any (is_one_of (distinct vs)) ts ≡ list_any (is_one_of vs) ts
one_of_distinct vs ts = any_same (is_one_of (distinct vs)) (is_one_of vs) (λ t. any_after (λ v. is_scalar v t) [] vs) ts

pub tokens_once : (operator : Operator) (ts vs : List Scalar) → has_tokens operator ts (distinct vs) ≡ has_tokens operator ts vs
tokens_once Or ts vs = one_of_distinct vs ts
tokens_once And ts vs =
    ap (λ b. b && list_all (has ts) (distinct vs)) (has_any (distinct vs) ∙ any_after (λ v. true) [] vs ∙ sym (has_any vs))
    ∙ ap (λ b. nat_lt 0 (length vs) && b) (all_after (has ts) [] vs)
