use Rattle.std.proofs.Common.{◌∙◌, refl, sym, take}
use Rattle.engine.specs.Parts.{is_among}
use Rattle.engine.proofs.ChosenLaws.{marks-more}
use Rattle.engine.proofs.read.block.Block.has_any.Goals as goal

-- one id more
pub loop-id-preserved : goal.loop-id-preserved
loop-id-preserved c =
    let ids = c.args.ids.now in
    let i = c.loop-id.id-index in
    sym (c.if-has.ensures refl (λ d. is_among (take i ids) d.0) ∙ marks-more ids i c.id-item.result c.loop-id-test.true c.id-item.is c.args.self.now.documents) ∙ c.loop-id.invariant
