use Rattle.std.proofs.Common.{◌≡◌, take}
use Rattle.engine.proofs.operations.operation_index.OperationIndex.of.Given as goal

-- the operations so far
abbrev pub invariant-loop-op : goal.invariant-loop-op
invariant-loop-op l = l.index ≡ take l.op-index l.operations
