use Rattle.std.proofs.Common.{◌≡◌, ◌||◌, drop, length, map}
use Rattle.std.specs.List.{list_any}
use Rattle.doc.specs.ScalarView.{scalars_view}
use Rattle.analysis.specs.Terms.{has, terms}
use Rattle.marks.specs.Lists.{zip_with}
use Rattle.search.proofs.selecting.with_any.Given as goal

-- the values that are left
abbrev pub invariant-loop-value : goal.invariant-loop-value
invariant-loop-value l = record {
  whole : length l.marks ≡ length l.known.segment.now.sources;
  left : zip_with (λ b s. b || list_any (has (terms l.known.segment.now.mapping s l.name)) (scalars_view (drop l.value-index l.values))) l.marks l.known.segment.now.sources ≡ map (λ s. list_any (has (terms l.known.segment.now.mapping s l.name)) (scalars_view l.values)) l.known.segment.now.sources;
}
