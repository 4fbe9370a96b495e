use Rattle.std.proofs.Common.{◌∙◌, ap, sym, length, true, false}
use Rattle.doc.specs.Scalar.{flag}
use Rattle.analysis.specs.Terms.{is_within}
use Rattle.analysis.specs.BoundsView.{bounds_view}
use Rattle.segment.specs.Indexed.{has_term}
use Rattle.segment.proofs.Columns.{long-enough}
use Rattle.segment.proofs.Joins.{length-zip}
use Rattle.segment.proofs.Withins.{truths-end}
use Rattle.segment.proofs.segment.Segment.mark_truths.Goals as goal

-- the marks of both truth values are as long
pub unite_if-requires : goal.unite_if-requires
unite_if-requires c =
    let m = c.args.self.now.mapping in
    long-enough m c.args.marks.now c.args.self.now.sources c.requires.whole (has_term m.fields c.args._name.now (flag true)) c.args.column.now.yes c.requires.is.yes

pub unite_if-requires-2 : goal.unite_if-requires-2
unite_if-requires-2 c =
    let m = c.args.self.now.mapping in
    let yea = long-enough m c.args.marks.now c.args.self.now.sources c.requires.whole (has_term m.fields c.args._name.now (flag true)) c.args.column.now.yes c.requires.is.yes in
    let nay = long-enough m c.args.marks.now c.args.self.now.sources c.requires.whole (has_term m.fields c.args._name.now (flag false)) c.args.column.now.no c.requires.is.no in
    nay ∙ sym yea ∙ sym (ap length c.unite_if.ensures ∙ length-zip _ c.args.marks.now c.args.column.now.yes (sym yea))

pub returns : goal.returns
returns c =
    let asked = is_within (bounds_view c.args.bounds.now) in
    truths-end c.args.self.now.mapping c.args.self.now.sources c.args.marks.now c.requires.whole c.args._name.now asked
    c.is_within-yes.result c.is_within-no.result c.args.column.now.yes c.args.column.now.no c.is_within-yes.ensures c.is_within-no.ensures c.requires.is.yes c.requires.is.no _ _ c.unite_if.ensures c.unite_if-2.ensures
