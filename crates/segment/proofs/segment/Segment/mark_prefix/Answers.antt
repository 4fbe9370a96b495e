use Rattle.analysis.specs.Terms.{begins_with, terms_at}
use Rattle.std.specs.List.{list_any}
use Rattle.segment.proofs.Columns.{unmapped, none_any}
use Rattle.segment.proofs.segment.Segment.mark_prefix.Goals as goal

-- a field without a column has no term
pub returns-in-None : goal.returns-in-None
returns-in-None c =
    let m = c.args.self.now.mapping in
    unmapped m c.args.marks.now c.args.self.now.sources c.requires c.args.name.now
    (λ d. list_any (begins_with c.args.text.now) (terms_at m.fields d c.args.name.now)) (none_any m.fields c.args.name.now (begins_with c.args.text.now)) c.in-None.ensures
