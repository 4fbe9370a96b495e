use Rattle.std.proofs.Common.{◌≡◌, take}
use Rattle.engine.specs.Slot.{ops}
use Rattle.engine.proofs.operations.slots.are_same.Given as goal

-- the first operations are the same
abbrev pub invariant-loop-at : goal.invariant-loop-at
invariant-loop-at l = ops (take l.at l.left) ≡ take l.at l.right
