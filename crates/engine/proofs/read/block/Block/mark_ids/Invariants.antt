use Rattle.std.proofs.Common.{◌≡◌, map, take}
use Rattle.engine.specs.Parts.{is_among}
use Rattle.engine.proofs.read.block.Block.mark_ids.Given as goal

-- those with one of the ids so far are marked
abbrev pub invariant-loop-id : goal.invariant-loop-id
invariant-loop-id l = l.marks ≡ map (λ d. is_among (take l.id-index l.ids) d.0) l.self.documents
