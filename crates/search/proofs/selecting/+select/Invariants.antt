use Rattle.std.proofs.Common.{◌≡◌, ◌+◌, ◌≤◌, ◌&&◌, ◌||◌, map, drop, length, nat_le, All}
use Rattle.doc.specs.Document.{all_values}
use Rattle.query.specs.Query.{queries_of}
use Rattle.query.specs.Meaning as spec
use Rattle.query.specs.View.{query_view}
use Rattle.marks.specs.Lists.{zip_with}
use Rattle.search.proofs.selecting.+select.Given as goal

-- the queries that are left decide
abbrev pub invariant-keep_all-loop-query : goal.invariant-keep_all-loop-query
invariant-keep_all-loop-query l = record {
  whole : length l.marks ≡ length l.known.segment.now.sources;
  left : zip_with (λ b s. b && spec.all_match l.known.segment.now.mapping.fields (all_values l.known.segment.now.mapping s) (queries_of (map query_view (drop l.query-index l.queries)))) l.marks l.known.segment.now.sources ≡ zip_with (λ b s. b && spec.all_match l.known.segment.now.mapping.fields (all_values l.known.segment.now.mapping s) (queries_of (map query_view l.queries))) l.initial.marks l.known.segment.now.sources;
}

-- the queries that are left decide
abbrev pub invariant-drop_any-loop-query : goal.invariant-drop_any-loop-query
invariant-drop_any-loop-query l = record {
  whole : length l.marks ≡ length l.known.segment.now.sources;
  left : zip_with (λ b s. b && spec.none_matches l.known.segment.now.mapping.fields (all_values l.known.segment.now.mapping s) (queries_of (map query_view (drop l.query-index l.queries)))) l.marks l.known.segment.now.sources ≡ zip_with (λ b s. b && spec.none_matches l.known.segment.now.mapping.fields (all_values l.known.segment.now.mapping s) (queries_of (map query_view l.queries))) l.initial.marks l.known.segment.now.sources;
}

-- those found, or those that a query that is left means
abbrev pub invariant-keep_any-loop-query : goal.invariant-keep_any-loop-query
invariant-keep_any-loop-query l = record {
  whole : length l.found ≡ length l.known.segment.now.sources;
  left : zip_with (λ b s. b || nat_le 1 (spec.matching l.known.segment.now.mapping.fields (all_values l.known.segment.now.mapping s) (queries_of (map query_view (drop l.query-index l.queries))))) l.found l.known.segment.now.sources ≡ map (λ s. nat_le 1 (spec.matching l.known.segment.now.mapping.fields (all_values l.known.segment.now.mapping s) (queries_of (map query_view l.queries)))) l.known.segment.now.sources;
}

-- those found, and those among the queries that are left
abbrev pub invariant-keep_enough-loop-query : goal.invariant-keep_enough-loop-query
invariant-keep_enough-loop-query l = record {
  whole : length l.counts.items ≡ length l.known.segment.now.sources;
  few : All (λ n. n ≤ l.query-index) l.counts.items;
  left : zip_with (λ n s. n + spec.matching l.known.segment.now.mapping.fields (all_values l.known.segment.now.mapping s) (queries_of (map query_view (drop l.query-index l.queries)))) l.counts.items l.known.segment.now.sources ≡ map (λ s. spec.matching l.known.segment.now.mapping.fields (all_values l.known.segment.now.mapping s) (queries_of (map query_view l.queries))) l.known.segment.now.sources;
}
