use Rattle.std.proofs.Common.{◌≡◌, ◌++◌, drop}
use Rattle.engine.specs.OperationIndex.{operations_in}
use Rattle.engine.specs.Slot.{ops, AreWhole}
use Rattle.engine.proofs.operations.operation_index.slots_of.Given as goal

-- those so far, and those that are left
abbrev pub invariant-loop-kept : goal.invariant-loop-kept
invariant-loop-kept l = (ops l.slots.items ++ operations_in (drop l.kept-index l.records) ≡ operations_in l.records) × AreWhole l.slots.items
