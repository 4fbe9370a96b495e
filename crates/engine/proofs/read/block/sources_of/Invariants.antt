use Rattle.std.proofs.Common.{◌≡◌, map, take}
use Rattle.engine.proofs.read.block.sources_of.Given as goal

-- the texts of the documents so far
abbrev pub invariant-loop-document : goal.invariant-loop-document
invariant-loop-document l = l.sources.items ≡ map (λ d. d.source) (take l.document-index l.documents)
