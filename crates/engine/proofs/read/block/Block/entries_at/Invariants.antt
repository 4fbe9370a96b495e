use Rattle.std.proofs.Common.{◌≡◌, map, take, Some, slice_get}
use Rattle.engine.specs.Entry.{entry_view}
use Rattle.engine.proofs.read.block.Block.entries_at.Given as goal

-- the documents so far stand at the places so far
abbrev pub invariant-loop-place : goal.invariant-loop-place
invariant-loop-place l = map (λ e. Some (entry_view e)) l.entries.items ≡ map (λ p. slice_get l.self.documents p) (take l.place-index l.found)
