use Rattle.std.proofs.Common.{◌≡◌, ◌+◌, drop}
use Rattle.op.specs.Operations.{reached}
use Rattle.engine.specs.Slot.{ops}
use Rattle.engine.proofs.operations.slots.reached.Given as goal

-- they go on with the operations that are left
abbrev pub invariant-loop-slot : goal.invariant-loop-slot
invariant-loop-slot l = (l.next ≡ l.from + l.slot-index) × (reached l.next (ops (drop l.slot-index l.slots)) ≡ reached l.from (ops l.slots))
