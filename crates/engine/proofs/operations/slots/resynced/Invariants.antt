use Rattle.std.proofs.Common.{◌≡◌, ◌++◌, take}
use Rattle.op.specs.Operations.{below}
use Rattle.engine.specs.Slot.{ops}
use Rattle.engine.proofs.operations.slots.resynced.Given as goal

-- what stays of the operations so far
abbrev pub invariant-loop-slot : goal.invariant-loop-slot
invariant-loop-slot l = l.all.items ≡ below l.count (ops (take l.slot-index l.slots))

-- and the tail so far
abbrev pub invariant-loop-op : goal.invariant-loop-op
invariant-loop-op l = l.all.items ≡ below l.count (ops l.slots) ++ take l.op-index l.op-items
