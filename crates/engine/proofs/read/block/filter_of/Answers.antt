use Rattle.engine.proofs.IdFilterLaws.{more-bits}
use Rattle.engine.proofs.read.block.filter_of.Goals as goal

-- one document more
pub loop-document-preserved : goal.loop-document-preserved
loop-document-preserved c =
    more-bits c.loop-document.ids c.add.new.self c.args.documents.now c.loop-document.document-index c.document-item.result c.loop-document-test.true c.document-item.is c.add.ensures.within c.add.ensures.set c.loop-document.invariant
