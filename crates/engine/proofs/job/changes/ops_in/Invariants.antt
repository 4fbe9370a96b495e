use Rattle.std.proofs.Common.{◌≡◌, ◌++◌, drop}
use Rattle.engine.specs.OperationIndex.{operations_in}
use Rattle.engine.proofs.job.changes.ops_in.Given as goal

-- those so far, and those that are left
abbrev pub invariant-loop-kept : goal.invariant-loop-kept
invariant-loop-kept l = l.ops.items ++ operations_in (drop l.kept-index l.records) ≡ operations_in l.records
