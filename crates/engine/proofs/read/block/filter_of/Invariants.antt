use Rattle.std.proofs.Common.{take}
use Rattle.engine.proofs.IdFilterLaws.{HaveBits}
use Rattle.engine.proofs.read.block.filter_of.Given as goal

-- the documents so far have their bits
abbrev pub invariant-loop-document : goal.invariant-loop-document
invariant-loop-document l = HaveBits l.ids (take l.document-index l.documents)
