use Rattle.std.proofs.Common.{take}
use Rattle.engine.specs.IdTables.{HaveLast}
use Rattle.engine.specs.Slot.{ops}
use Rattle.engine.proofs.operations.operation_index.latest_numbers.Given as goal

-- the numbers of the last operations so far
abbrev pub invariant-loop-slot : goal.invariant-loop-slot
invariant-loop-slot l = HaveLast (ops (take l.slot-index l.slots)) l.latest.tables.items
