-- The terms of a field, and what may be asked of one.
use Rattle.std.specs.Prelude.{ℕ, Bool, true, false, not, ◌&&◌, nat_eq, List, [], ◌∷◌, map, flat_map, Option, Some, None, int_lt}
use Rattle.std.specs.Ordering.{is_lt, nat_cmp}
use Rattle.std.specs.Cmp.Lexicographic.{slice_cmp}
use Rattle.std.specs.List.{list_any, starts_with}
use Rattle.analysis.specs.Tokens.{tokens_of}
use Rattle.doc.specs.declared.mapping.Kind.{Kind}
use Rattle.doc.specs.declared.mapping.Kind.TheVariants.{Keyword, Text, Long, Boolean}
use Rattle.doc.specs.Fields.{Fields, kind_at}
use Rattle.doc.specs.Mapping.{MappingData}
use Rattle.doc.specs.Scalar.{Scalar, text, long, flag, is_scalar}
use Rattle.doc.specs.Document.{Values, values_at, all_values}
use Rattle.analysis.specs.Bounds.{Bounds}

-- ---- terms

-- the tokens of a text
abbrev pub terms_of_value : Scalar → List Scalar
terms_of_value (text s) = map text (tokens_of s)
terms_of_value (long z) = long z ∷ []
terms_of_value (flag b) = flag b ∷ []

-- the terms of a field with these values: the values, or of a text field the tokens of all its values
abbrev pub terms_by : Option Kind → List Scalar → List Scalar
terms_by None vs = []
terms_by (Some Keyword) vs = vs
terms_by (Some Text) vs = flat_map terms_of_value vs
terms_by (Some Long) vs = vs
terms_by (Some Boolean) vs = vs

-- the terms of a field among the values of a document
abbrev pub terms_at : Fields → Values → List ℕ → List Scalar
terms_at fields vs name = terms_by (kind_at name fields) (values_at name vs)

-- the terms that a source gives a field under a mapping
abbrev pub terms : MappingData → List ℕ → List ℕ → List Scalar
terms m source name = terms_at m.fields (all_values m source) name

-- ---- what is asked of a term

-- whether one of the terms is this value
abbrev pub has : List Scalar → Scalar → Bool
has ts v = list_any (is_scalar v) ts

-- whether a term is one of the values
abbrev pub is_one_of : List Scalar → Scalar → Bool
is_one_of vs t = list_any (λ v. is_scalar v t) vs

-- whether a term begins with a text
abbrev pub begins_with : List ℕ → Scalar → Bool
begins_with p (text s) = starts_with nat_eq s p
begins_with p (long z) = false
begins_with p (flag b) = false

-- texts by bytes, numbers as numbers
abbrev pub is_less : Scalar → Scalar → Bool
is_less (text s) (text t) = is_lt (slice_cmp nat_cmp s t)
is_less (text s) (long z) = false
is_less (text s) (flag b) = false
is_less (long y) (text t) = false
is_less (long y) (long z) = int_lt y z
is_less (long y) (flag b) = false
is_less (flag a) v = false

-- a bound that is not given holds of every term
abbrev pub meets : Option Scalar → (Scalar → Bool) → Bool
meets None test = true
meets (Some bound) test = test bound

-- whether a term lies within the bounds
abbrev pub is_within : Bounds → Scalar → Bool
is_within b t = meets b.gt (λ v. is_less v t) && meets b.gte (λ v. not (is_less t v)) && meets b.lt (λ v. is_less t v) && meets b.lte (λ v. not (is_less v t))
