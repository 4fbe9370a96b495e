use Rattle.std.proofs.Common.{◌≡◌, [], map, take}
use Rattle.engine.specs.Parts.{is_among}
use Rattle.engine.proofs.read.block.Block.has_any.Given as goal

-- no document has one of the ids so far
abbrev pub invariant-loop-id : goal.invariant-loop-id
invariant-loop-id l = map (λ d. is_among (take l.id-index l.ids) d.0) l.self.documents ≡ map (λ d. is_among [] d.0) l.self.documents
