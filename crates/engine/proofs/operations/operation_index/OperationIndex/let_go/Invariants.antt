use Rattle.std.proofs.Common.{◌≡◌}
use Rattle.engine.proofs.operations.operation_index.OperationIndex.let_go.Given as goal

-- clauses see no difference
abbrev pub invariant-loop-at : goal.invariant-loop-at
invariant-loop-at l = l.self ≡ l.fn.self
