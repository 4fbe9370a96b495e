use Rattle.std.proofs.Common.{take}
use Rattle.engine.specs.Slot.{ops}
use Rattle.engine.proofs.NotedLaws.{AreNoted}
use Rattle.engine.proofs.operations.operation_index.numbers_of.Given as goal

-- so far, those of the operations so far
abbrev pub invariant-loop-slot : goal.invariant-loop-slot
invariant-loop-slot l = AreNoted l.numbers.items (ops (take l.slot-index l.slots))
