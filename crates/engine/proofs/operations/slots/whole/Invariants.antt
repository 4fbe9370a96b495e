use Rattle.std.proofs.Common.{◌≡◌, take}
use Rattle.engine.specs.Slot.{whole_ops}
use Rattle.engine.proofs.operations.slots.whole.Given as goal

-- so far, those of the slots so far
abbrev pub invariant-loop-slot : goal.invariant-loop-slot
invariant-loop-slot l = l.all.items ≡ whole_ops (take l.slot-index l.slots)
