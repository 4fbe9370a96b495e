use Rattle.std.proofs.Common.{length}
use Rattle.std.specs.Int.{w32, to_le_bytes}
use Rattle.op.specs.Format.{operation_bytes}
use Rattle.op.proofs.Lengths.{one_more}
use Rattle.op.proofs.writing.put_operations.Goals as goal

pub loop-op-preserved : goal.loop-op-preserved
loop-op-preserved c = one_more operation_bytes c.args.out.now.items (to_le_bytes w32 (length c.args.operations.now)) c.args.operations.now c.loop-op.op-index c.op-item.result _ _ c.loop-op-test.true c.op-item.is c.loop-op.invariant c.in_ok-put_operation.ensures
