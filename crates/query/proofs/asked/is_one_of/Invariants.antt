use Rattle.std.proofs.Common.{◌≡◌, drop}
use Rattle.doc.specs.ScalarView.{scalar_view, scalars_view}
use Rattle.analysis.specs.Terms.{is_one_of}
use Rattle.query.proofs.asked.is_one_of.Given as goal

-- the values that are left decide
abbrev pub invariant-loop-value : goal.invariant-loop-value
invariant-loop-value l = is_one_of (scalars_view (drop l.value-index l.values)) (scalar_view l.term) ≡ is_one_of (scalars_view l.values) (scalar_view l.term)
