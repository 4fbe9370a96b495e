-- What queries mean beside one another.
use Rattle.std.proofs.Common.{◌≡◌, ℕ, ◌+◌, Bool, true, false, not, ◌&&◌, ◌||◌, if◌then◌else◌, List, [], ◌∷◌, length, Some, refl, ap, ◌∙◌, arith, IsTrue}
use Rattle.std.specs.Prelude.{nat_lt, nat_le}
use Rattle.std.specs.List.{list_any, list_all}
use Rattle.std.proofs.lemmas.Bool.Decides.{nat_tests}
use Rattle.doc.specs.declared.mapping.Kind.TheVariants.{Long}
use Rattle.doc.specs.Fields.{Fields, kind_at}
use Rattle.doc.specs.Scalar.{Scalar, is_scalar}
use Rattle.doc.specs.Document.{Values, values_at}
use Rattle.query.specs.Laws.{unbounded, only_must, only_filter, only_must_not, either, both}
use Rattle.query.specs.Meaning.{matches, has_tokens}
use Rattle.analysis.specs.Terms.{terms_by, has, is_one_of, is_within}
use Rattle.query.specs.Query.{Query, range, exists}
use Rattle.query.specs.declared.query.Operator.TheVariants.{Or, And}

pub is_complement : (fields : Fields) (vs : Values) (q : Query) → matches fields vs (only_must_not q) ≡ not (matches fields vs q)
is_complement fields vs q = by_cases (matches fields vs q)
  where
    by_cases : (b : Bool) → (true && true && (not b && true) && true) ≡ not b
    by_cases true = refl
    by_cases false = refl

pub is_must : (fields : Fields) (vs : Values) (q : Query) → matches fields vs (only_must q) ≡ matches fields vs q
is_must fields vs q = by_cases (matches fields vs q)
  where
    by_cases : (b : Bool) → (true && (b && true) && true && true) ≡ b
    by_cases true = refl
    by_cases false = refl

pub is_filter : (fields : Fields) (vs : Values) (q : Query) → matches fields vs (only_filter q) ≡ matches fields vs q
is_filter fields vs q = by_cases (matches fields vs q)
  where
    by_cases : (b : Bool) → ((b && true) && true && true && true) ≡ b
    by_cases true = refl
    by_cases false = refl

pub is_either : (fields : Fields) (vs : Values) (p q : Query) → matches fields vs (either p q) ≡ (matches fields vs p || matches fields vs q)
is_either fields vs p q = by_cases (matches fields vs p) (matches fields vs q)
  where
    by_cases : (a b : Bool) → (true && true && true && nat_le 1 ((if a then 1 else 0) + ((if b then 1 else 0) + 0))) ≡ (a || b)
    by_cases true true = refl
    by_cases true false = refl
    by_cases false true = refl
    by_cases false false = refl

pub is_both : (fields : Fields) (vs : Values) (p q : Query) → matches fields vs (both p q) ≡ (matches fields vs p && matches fields vs q)
is_both fields vs p q = by_cases (matches fields vs p) (matches fields vs q)
  where
    by_cases : (a b : Bool) → (true && (a && (b && true)) && true && true) ≡ (a && b)
    by_cases true true = refl
    by_cases true false = refl
    by_cases false true = refl
    by_cases false false = refl

-- ---- terms and tokens

-- a value among the terms is one of the values
is_any : (v : Scalar) (vs ts : List Scalar) → IsTrue (has ts v) → IsTrue (list_any (is_one_of (v ∷ vs)) ts)
is_any v vs [] given = given
is_any v vs (t ∷ ts) given = by_cases (is_scalar v t) (is_one_of vs t) (has ts v) (list_any (is_one_of (v ∷ vs)) ts) given (is_any v vs ts)
  where
    by_cases : (a b c d : Bool) → IsTrue (a || c) → (IsTrue c → IsTrue d) → IsTrue ((a || b) || d)
    by_cases true b c d given rest = refl
    by_cases false true c d given rest = refl
    by_cases false false c d given rest = rest given

pub one_of_all : (ts tokens : List Scalar) → IsTrue (has_tokens And ts tokens) → IsTrue (has_tokens Or ts tokens)
one_of_all ts [] given = cc
one_of_all ts (v ∷ vs) given = is_any v vs ts (first (has ts v) (list_all (has ts) vs) (rw nonempty at given))
  where
    first : (a b : Bool) → IsTrue (true && (a && b)) → IsTrue a
    first true b given = refl
    first false b given = given

    nonempty : nat_lt 0 (length (v ∷ vs)) ≡ true
    nonempty = grind (arith, nat_tests)

pub none_of_none : (ts : List Scalar) → list_any (is_one_of []) ts ≡ false
none_of_none [] = refl
none_of_none (t ∷ ts) = none_of_none ts

-- one of the values is among the terms in either order
pub exchanged : (ts vs : List Scalar) → list_any (is_one_of vs) ts ≡ list_any (has ts) vs
exchanged ts [] = none_of_none ts
exchanged ts (v ∷ vs) = split ts ∙ ap (λ b. has ts v || b) (exchanged ts vs)
  where
    regroup : (a b c d : Bool) → ((a || b) || (c || d)) ≡ ((a || c) || (b || d))
    regroup true b c d = refl
    regroup false true true d = refl
    regroup false true false d = refl
    regroup false false c d = refl

    split : (ts : List Scalar) → list_any (is_one_of (v ∷ vs)) ts ≡ (has ts v || list_any (is_one_of vs) ts)
    split [] = refl
    split (t ∷ ts) = ap (λ b. is_one_of (v ∷ vs) t || b) (split ts) ∙ regroup (is_scalar v t) (is_one_of vs t) (has ts v) (list_any (is_one_of vs) ts)

-- ---- ranges

any_within : (ts : List Scalar) → list_any (is_within unbounded) ts ≡ nat_lt 0 (length ts)
any_within [] = refl
any_within (t ∷ ts) = grind (arith, nat_tests)

pub is_exists : (fields : Fields) (vs : Values) (field : List ℕ) → kind_at field fields ≡ Some Long → matches fields vs (range field unbounded) ≡ matches fields vs (exists field)
is_exists fields vs field is_long = ap (λ k. list_any (is_within unbounded) (terms_by k (values_at field vs))) is_long ∙ any_within (values_at field vs)
