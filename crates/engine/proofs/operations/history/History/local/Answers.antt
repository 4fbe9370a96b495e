use Rattle.std.proofs.Common.{◌≤◌, ◌^◌, arith}
use Rattle.op.specs.Operations.{next_seq}
use Rattle.op.proofs.OperationLaws.{local_count-within}
use Rattle.engine.proofs.operations.history.History.local.Goals as goal

pub from_count-requires : goal.from_count-requires
from_count-requires c =
    let os = c.self.inside.operations in
    let within = local_count-within os c.self.invariant.0.ascending in
    let small : next_seq os ≤ 2 ^ 63 = c.self.invariant.0.small in
    rw c.local.ensures (omega arith)
