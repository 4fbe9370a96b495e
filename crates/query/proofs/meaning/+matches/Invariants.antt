use Rattle.std.proofs.Common.{◌≡◌, ◌+◌, ◌≤◌, map, drop}
use Rattle.query.specs.Query.{queries_of}
use Rattle.query.specs.Meaning as spec
use Rattle.query.specs.View.{query_view}
use Rattle.query.proofs.meaning.+matches.Given as goal

-- the queries that are left decide
abbrev pub invariant-all_match-loop-query : goal.invariant-all_match-loop-query
invariant-all_match-loop-query l = spec.all_match l.mapping.fields l.doc.values (queries_of (map query_view (drop l.query-index l.queries))) ≡ spec.all_match l.mapping.fields l.doc.values (queries_of (map query_view l.queries))

-- the queries that are left decide
abbrev pub invariant-none_matches-loop-query : goal.invariant-none_matches-loop-query
invariant-none_matches-loop-query l = spec.none_matches l.mapping.fields l.doc.values (queries_of (map query_view (drop l.query-index l.queries))) ≡ spec.none_matches l.mapping.fields l.doc.values (queries_of (map query_view l.queries))

-- those found, and those among the queries that are left
abbrev pub invariant-matching-loop-query : goal.invariant-matching-loop-query
invariant-matching-loop-query l = record {
  few : l.found ≤ l.query-index;
  so_far : l.found + spec.matching l.mapping.fields l.doc.values (queries_of (map query_view (drop l.query-index l.queries))) ≡ spec.matching l.mapping.fields l.doc.values (queries_of (map query_view l.queries));
}
