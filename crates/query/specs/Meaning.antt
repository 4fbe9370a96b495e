-- What a query means of a document.
use Rattle.std.specs.Prelude.{ℕ, ◌+◌, Bool, true, false, not, ◌&&◌, ◌==◌, nat_lt, nat_le, List, length, if◌then◌else◌}
use Rattle.std.specs.List.{list_any, list_all}
use Rattle.doc.specs.Fields.{Fields}
use Rattle.doc.specs.Mapping.{MappingData}
use Rattle.doc.specs.Scalar.{Scalar}
use Rattle.doc.specs.Document.{Values, values_at, all_values}
use Rattle.analysis.specs.Terms.{terms_at, has, is_one_of, begins_with, is_within}
use Rattle.query.specs.declared.query.Operator.{Operator}
use Rattle.query.specs.declared.query.Operator.TheVariants.{Or, And}
use Rattle.query.specs.Query.{Query, Queries, match_all, nothing, term, terms as any_of, match_tokens, prefix, range, exists, bool, none, more, count_of}

-- whether one token is a term, or there is one and all are
abbrev pub has_tokens : Operator → List Scalar → List Scalar → Bool
has_tokens Or ts tokens = list_any (is_one_of tokens) ts
has_tokens And ts tokens = nat_lt 0 (length tokens) && list_all (has ts) tokens

-- ---- queries

-- how many of `should` are wanted: at least one where nothing else is asked for
abbrev pub wanted : (filter must should minimum : ℕ) → ℕ
wanted filter must should minimum = if minimum == 0 && filter + must == 0 && nat_lt 0 should then 1 else minimum

module _ (fields : Fields) (vs : Values) where
  abbrev mutual
    -- what a query means of the values of a document
    pub matches : Query → Bool
    matches match_all = true
    matches nothing = false
    matches (term field v) = has (terms_at fields vs field) v
    matches (any_of field values) = list_any (is_one_of values) (terms_at fields vs field)
    matches (match_tokens field operator tokens) = has_tokens operator (terms_at fields vs field) tokens
    matches (prefix field p) = list_any (begins_with p) (terms_at fields vs field)
    matches (range field bounds) = list_any (is_within bounds) (terms_at fields vs field)
    matches (exists field) = nat_lt 0 (length (values_at field vs))
    matches (bool filter must must_not should minimum) = all_match filter && all_match must && none_matches must_not && nat_le (wanted (count_of filter) (count_of must) (count_of should) minimum) (matching should)

    pub all_match : Queries → Bool
    all_match none = true
    all_match (more q qs) = matches q && all_match qs

    pub none_matches : Queries → Bool
    none_matches none = true
    none_matches (more q qs) = not (matches q) && none_matches qs

    -- how many match
    pub matching : Queries → ℕ
    matching none = 0
    matching (more q qs) = (if matches q then 1 else 0) + matching qs

-- what a query means of a source under a mapping
abbrev pub means : MappingData → List ℕ → Query → Bool
means m source q = matches m.fields (all_values m source) q
