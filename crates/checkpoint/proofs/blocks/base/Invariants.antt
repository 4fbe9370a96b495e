use Rattle.std.proofs.Common.{◌≡◌, ◌<◌, ◌+◌, ◌%◌, ℕ, slice_index}
use Rattle.checkpoint.proofs.blocks.base.Given as goal

-- the blocks so far have none
abbrev pub invariant-loop-step : goal.invariant-loop-step
invariant-loop-step l = (j : ℕ) → j < l.step → slice_index l.words ((l.first + j) % 17) ≡ 0
