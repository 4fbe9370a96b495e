use Rattle.std.proofs.Common.{◌∙◌, take}
use Rattle.engine.specs.Parts.{is_among}
use Rattle.engine.proofs.ChosenLaws.{marks-more}
use Rattle.engine.proofs.read.block.Block.mark_ids.Goals as goal

-- one id more
pub loop-id-preserved : goal.loop-id-preserved
loop-id-preserved c =
    let ids = c.args.ids.now in
    let i = c.loop-id.id-index in
    c.mark_id.ensures (λ d. is_among (take i ids) d.0) c.loop-id.invariant ∙ marks-more ids i c.id-item.result c.loop-id-test.true c.id-item.is c.args.self.now.documents
