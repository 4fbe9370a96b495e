-- A query as it is kept.
use Rattle.std.specs.Prelude.{string_bytes}
use Rattle.doc.specs.ScalarView.{scalar_view, scalars_view}
use Rattle.analysis.specs.BoundsView.{bounds_view}
use Rattle.query.specs.declared.query.Query.{Query, fold-Query}
use Rattle.query.specs.declared.query.Query.TheOpen.{Query-F}
use Rattle.query.specs.Query as spec
use Rattle.query.specs.Query.{match_all, nothing, term, terms, match_tokens, prefix, range, exists, bool, queries_of}

-- one level, where each query inside is seen already
abbrev pub view_step : Query-F spec.Query → spec.Query
view_step Query-F.MatchAll = match_all
view_step Query-F.Nothing = nothing
view_step (Query-F.Term field value) = term (string_bytes field) (scalar_view value)
view_step (Query-F.Terms field values) = terms (string_bytes field) (scalars_view values.items)
view_step (Query-F.Match field operator tokens) = match_tokens (string_bytes field) operator (scalars_view tokens.items)
view_step (Query-F.Prefix field text) = prefix (string_bytes field) (string_bytes text)
view_step (Query-F.Range field bounds) = range (string_bytes field) (bounds_view bounds)
view_step (Query-F.Exists field) = exists (string_bytes field)
view_step (Query-F.Bool filter must must_not should minimum) = bool (queries_of filter.items) (queries_of must.items) (queries_of must_not.items) (queries_of should.items) minimum

abbrev pub query_view : Query → spec.Query
query_view = fold-Query spec.Query view_step
