use Rattle.std.proofs.Common.{Some, take}
use Rattle.doc.specs.ScalarView.{scalars_view}
use Rattle.analysis.specs.Terms.{terms_by}
use Rattle.segment.specs.Posted.{IsPosted}
use Rattle.segment.proofs.posting.post_values.Given as goal

-- the values so far are posted
abbrev pub invariant-loop-value : goal.invariant-loop-value
invariant-loop-value l = IsPosted (terms_by (Some l.kind) (scalars_view (take l.value-index l.values))) l.at l.initial.making l.making
