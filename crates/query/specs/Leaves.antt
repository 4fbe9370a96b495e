-- Queries without parts: what a JSON value reads as, or its fault.
use Rattle.std.specs.Prelude.{ℕ, false, ◌||◌, List, length, codes, Option, Some, None, Result, Ok, Err, nat_lt, if◌then◌else◌, ⊤}
use Rattle.std.specs.List.{list_all}
use Rattle.std.specs.Str.{bytes_eq}
use Rattle.serde_json.specs.Data.{Data, null, boolean, number, string, array, object}
use Rattle.serde_json.specs.Find.{get}
use Rattle.doc.specs.declared.mapping.Kind.{Kind}
use Rattle.doc.specs.declared.mapping.Kind.TheVariants.{Keyword, Text, Long, Boolean}
use Rattle.doc.specs.Fields.{kind_at}
use Rattle.doc.specs.Mapping.{MappingData}
use Rattle.doc.specs.Outcome.{◌>>=◌, try_map}
use Rattle.doc.specs.Scalar.{Scalar, text, long, flag, Converted, wrong, nothing as no_value, value, converted}
use Rattle.query.specs.declared.query.Operator.{Operator}
use Rattle.query.specs.declared.query.Operator.TheVariants.{Or, And}
use Rattle.query.specs.Distinct.{distinct}
use Rattle.query.specs.Fault.{Fault, parsing, too_many_clauses, wrong_kind}
use Rattle.analysis.specs.Terms.{terms_of_value}
use Rattle.query.specs.Query.{Query, match_all, nothing, term, terms, match_tokens, prefix, range, exists}
use Rattle.query.specs.Shape.{only_of, required, text_in, items_in, is_value, check, named, value_of, is_value_key, is_field_key, is_match_key, is_range_key}

-- a value that can't be converted, or that gives no value, is of the wrong kind
abbrev pub scalar_or : List ℕ → Converted → Result Scalar Fault
scalar_or field wrong = Err (wrong_kind field)
scalar_or field no_value = Err (wrong_kind field)
scalar_or field (value s) = Ok s

abbrev pub scalar_of : List ℕ → Kind → Data → Result Scalar Fault
scalar_of field k d = scalar_or field (converted k d)

-- ---- match_all

abbrev pub match_all_of : Data → Result Query Fault
match_all_of d = do
  known ← named (λ k. false) d
  Ok match_all

-- ---- term

-- a field that is not mapped has no terms
abbrev pub term_at : List ℕ → Option Kind → Data → Result Query Fault
term_at field None d = Ok nothing
term_at field (Some k) d = do
  v ← scalar_of field k d
  Ok (term field v)

unfoldable pub term_of : MappingData → Data → Result Query Fault
term_of m d = do
  at ← only_of d
  v ← value_of is_value_key (codes "value") at.1
  term_at at.0 (kind_at at.0 m.fields) v

-- ---- terms

-- each value once
abbrev pub terms_at : List ℕ → Option Kind → List Data → Result Query Fault
terms_at field None ds = Ok nothing
terms_at field (Some k) ds = do
  vs ← try_map (scalar_of field k) ds
  Ok (terms field (distinct vs))

-- at most 65,536 values
abbrev pub few : List Data → Result ⊤ Fault
few ds = if nat_lt 65536 (length ds) then Err too_many_clauses else Ok tt

unfoldable pub terms_of : MappingData → Data → Result Query Fault
terms_of m d = do
  at ← only_of d
  ds ← items_in at.1
  small ← few ds
  known ← check (list_all is_value ds)
  terms_at at.0 (kind_at at.0 m.fields) ds

-- ---- match

abbrev pub operator_named : List ℕ → Result Operator Fault
operator_named t = if bytes_eq t (codes "or") || bytes_eq t (codes "OR") then Ok Or else (if bytes_eq t (codes "and") || bytes_eq t (codes "AND") then Ok And else Err parsing)

-- `or` where there is none
abbrev pub operator_of : Option Data → Result Operator Fault
operator_of None = Ok Or
operator_of (Some d) = text_in d >>= operator_named

-- on a text field the tokens of the value, each once; on others as `term`
abbrev pub match_at : List ℕ → Operator → Option Kind → Data → Result Query Fault
match_at field operator None d = Ok nothing
match_at field operator (Some Keyword) d = term_at field (Some Keyword) d
match_at field operator (Some Long) d = term_at field (Some Long) d
match_at field operator (Some Boolean) d = term_at field (Some Boolean) d
match_at field operator (Some Text) d = do
  v ← scalar_of field Text d
  Ok (match_tokens field operator (distinct (terms_of_value v)))

-- the operator of a long form; a short form has none
abbrev pub operator_in : Data → Result Operator Fault
operator_in d = operator_of (get (codes "operator") d)

unfoldable pub match_of : MappingData → Data → Result Query Fault
match_of m d = do
  at ← only_of d
  v ← value_of is_match_key (codes "query") at.1
  operator ← operator_in at.1
  match_at at.0 operator (kind_at at.0 m.fields) v

-- ---- prefix

abbrev pub prefix_with : List ℕ → Scalar → Result Query Fault
prefix_with field (text p) = Ok (prefix field p)
prefix_with field (long z) = Err (wrong_kind field)
prefix_with field (flag b) = Err (wrong_kind field)

-- only texts have beginnings
abbrev pub prefix_at : List ℕ → Option Kind → List ℕ → Result Query Fault
prefix_at field None p = Ok nothing
prefix_at field (Some Keyword) p = scalar_of field Keyword (string p) >>= prefix_with field
prefix_at field (Some Text) p = scalar_of field Text (string p) >>= prefix_with field
prefix_at field (Some Long) p = Err (wrong_kind field)
prefix_at field (Some Boolean) p = Err (wrong_kind field)

unfoldable pub prefix_of : MappingData → Data → Result Query Fault
prefix_of m d = do
  at ← only_of d
  v ← value_of is_value_key (codes "value") at.1
  p ← text_in v
  prefix_at at.0 (kind_at at.0 m.fields) p

-- ---- range

-- a bound that is absent or null is none
abbrev pub bound_in : Option Data → Result (Option Data) Fault
bound_in None = Ok None
bound_in (Some null) = Ok None
bound_in (Some (boolean b)) = Ok (Some (boolean b))
bound_in (Some (number n)) = Ok (Some (number n))
bound_in (Some (string s)) = Ok (Some (string s))
bound_in (Some (array ds)) = Err parsing
bound_in (Some (object ms)) = Err parsing

-- the bounds as they are written
pub record WrittenBounds : Type 0 where
  pub gt : Option Data
  pub gte : Option Data
  pub lt : Option Data
  pub lte : Option Data

unfoldable pub written_in : Data → Result WrittenBounds Fault
written_in d = do
  known ← named is_range_key d
  gt ← bound_in (get (codes "gt") d)
  gte ← bound_in (get (codes "gte") d)
  lt ← bound_in (get (codes "lt") d)
  lte ← bound_in (get (codes "lte") d)
  Ok (record { gt = gt; gte = gte; lt = lt; lte = lte })

abbrev pub bound_at : List ℕ → Kind → Option Data → Result (Option Scalar) Fault
bound_at field k None = Ok None
bound_at field k (Some d) = do
  v ← scalar_of field k d
  Ok (Some v)

unfoldable pub bounds_at : List ℕ → Kind → WrittenBounds → Result Query Fault
bounds_at field k w = do
  gt ← bound_at field k w.gt
  gte ← bound_at field k w.gte
  lt ← bound_at field k w.lt
  lte ← bound_at field k w.lte
  Ok (range field (record { gt = gt; gte = gte; lt = lt; lte = lte }))

-- truth values have no order
abbrev pub range_at : List ℕ → Option Kind → WrittenBounds → Result Query Fault
range_at field None w = Ok nothing
range_at field (Some Keyword) w = bounds_at field Keyword w
range_at field (Some Text) w = bounds_at field Text w
range_at field (Some Long) w = bounds_at field Long w
range_at field (Some Boolean) w = Err (wrong_kind field)

unfoldable pub range_of : MappingData → Data → Result Query Fault
range_of m d = do
  at ← only_of d
  w ← written_in at.1
  range_at at.0 (kind_at at.0 m.fields) w

-- ---- exists

abbrev pub exists_at : List ℕ → Option Kind → Query
exists_at field None = nothing
exists_at field (Some k) = exists field

unfoldable pub exists_of : MappingData → Data → Result Query Fault
exists_of m d = do
  known ← named is_field_key d
  v ← required (get (codes "field") d)
  field ← text_in v
  Ok (exists_at field (kind_at field m.fields))

-- ---- by name

unfoldable pub leaf_of : MappingData → List ℕ → Data → Result Query Fault
leaf_of m name d =
    if bytes_eq name (codes "match_all") then match_all_of d else (
    if bytes_eq name (codes "term") then term_of m d else (
    if bytes_eq name (codes "terms") then terms_of m d else (
    if bytes_eq name (codes "match") then match_of m d else (
    if bytes_eq name (codes "prefix") then prefix_of m d else (
    if bytes_eq name (codes "range") then range_of m d else (
    if bytes_eq name (codes "exists") then exists_of m d else Err parsing))))))
