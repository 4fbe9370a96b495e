use Rattle.std.proofs.Common.{◌∙◌, ap, List}
use Rattle.std.specs.Arc.{arc_value}
use Rattle.engine.specs.Live.{live_of}
use Rattle.engine.specs.Parts.{PartData, PartListData, all_published, documents_of_parts, woven}
use Rattle.engine.specs.Published.{numbered}
use Rattle.engine.proofs.ChoosingLaws.{chosen-parts, chosen-published, chosen-woven}
use Rattle.engine.proofs.read.part_list.PartList.numbered.Goals as goal

pub invariant_of-result : goal.invariant_of-result
invariant_of-result c =
    let parts = rw c.deref.ensures.value at c.in_ok-parts.ensures in
    rw (c.in_ok-mapping.ensures, parts) (chosen-parts c.args.numbers.now (arc_value c.self.inside.mapping) c.self.inside.parts.items c.self.invariant)

pub returns-clause-published : goal.returns-clause-published
returns-clause-published c =
    let ns = c.args.numbers.now in
    let parts = rw c.deref.ensures.value at c.in_ok-parts.ensures in
    ap all_published parts ∙ chosen-published ns c.self.inside.parts.items ∙ ap (λ (l : PartListData). numbered ns l.published) c.self.view_is

pub returns-clause-documents : goal.returns-clause-documents
returns-clause-documents c =
    let ns = c.args.numbers.now in
    let parts = rw c.deref.ensures.value at c.in_ok-parts.ensures in
    ap (λ (ps : List PartData). woven (documents_of_parts ps)) parts ∙ chosen-woven ns c.self.inside.parts.items ∙ ap (λ (l : PartListData). woven (live_of ns l.published l.live)) c.self.view_is
