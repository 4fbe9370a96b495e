use Rattle.std.proofs.Common.{◌≡◌, map, take, Some, slice_get}
use Rattle.engine.specs.Shown.{shown_view}
use Rattle.engine.proofs.read.block.Block.shown_at.Given as goal

-- the documents so far stand at the places so far
abbrev pub invariant-loop-place : goal.invariant-loop-place
invariant-loop-place l = map (λ r. Some (shown_view r.now)) l.all.items ≡ map (λ p. slice_get l.self.documents p) (take l.place-index l.found)
