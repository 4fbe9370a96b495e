use Rattle.std.proofs.Common.{◌∙◌, ap, arith, length}
use Rattle.std.specs.Arc.{arc_value}
use Rattle.engine.specs.Parts.{PartData}
use Rattle.engine.proofs.ShareLaws.{length-chosen}
use Rattle.engine.proofs.read.part.Part.live_len.Goals as goal

-- as many marks as live documents
pub returns-clause-is : goal.returns-clause-is
returns-clause-is c =
    let docs = (arc_value c.self.inside.block).documents in
    c.self.invariant.counted ∙ ap (λ (s : PartData). length s.documents) c.self.view_is

pub returns-clause-few : goal.returns-clause-few
returns-clause-few c =
    let docs = (arc_value c.self.inside.block).documents in
    let live = arc_value c.self.inside.live in
    let len = rw c.deref.ensures at c.len-few.ensures.is in
    omega (arith, c.self.invariant.counted, length-chosen docs live, len, c.len-few.ensures.few)
