use Rattle.std.proofs.Common.{take}
use Rattle.doc.specs.ScalarView.{values_view}
use Rattle.segment.specs.Added.{AreAdded}
use Rattle.segment.proofs.adding.add_document.Given as goal

-- the fields so far are added
abbrev pub invariant-loop-field : goal.invariant-loop-field
invariant-loop-field l = AreAdded l.mapping.fields l.len (values_view (take l.field-index l.fields)) l.at l.initial.makings l.makings
