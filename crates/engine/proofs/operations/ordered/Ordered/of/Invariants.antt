use Rattle.std.proofs.Common.{◌≡◌, take}
use Rattle.engine.proofs.operations.ordered.Ordered.of.Given as goal

-- the operations so far
abbrev pub invariant-loop-op : goal.invariant-loop-op
invariant-loop-op l = l.ordered ≡ take l.op-index l.operations
