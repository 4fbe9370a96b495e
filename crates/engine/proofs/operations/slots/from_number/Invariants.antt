use Rattle.std.proofs.Common.{◌≡◌, take}
use Rattle.op.specs.Operations.{from_number}
use Rattle.engine.specs.Slot.{ops}
use Rattle.engine.proofs.operations.slots.from_number.Given as goal

-- so far, those of the operations so far
abbrev pub invariant-loop-slot : goal.invariant-loop-slot
invariant-loop-slot l = l.found.items ≡ from_number l.first (ops (take l.slot-index l.slots))
