use Rattle.std.proofs.Common.{◌≡◌}
use Rattle.doc.specs.Scalar.{Scalar}
use Rattle.doc.specs.ScalarView.{scalars_view}
use Rattle.query.specs.Distinct.{distinct, distinct_after}
use Rattle.query.specs.SeenView.{has_seen}
use Rattle.analysis.specs.Terms.{has}
use Rattle.query.proofs.seen.distinct.Given as goal

-- what was seen are the values so far, and those that are left follow
abbrev pub invariant-loop-value : goal.invariant-loop-value
invariant-loop-value l =
    ((v : Scalar) → has_seen l.seen v ≡ has (scalars_view l.found.items) v)
    × (distinct_after (scalars_view l.found.items) (scalars_view l.value-iterator.rest.items) ≡ distinct (scalars_view l.fn.values.items))
