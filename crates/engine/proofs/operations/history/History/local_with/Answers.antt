use Rattle.std.proofs.Common.{◌≤◌, ◌<◌, ◌^◌, arith}
use Rattle.op.specs.Operations.{add, local_count, next_seq}
use Rattle.op.proofs.OperationLaws.{IsAscending-add, local_count-within, next_seq-add}
use Rattle.engine.proofs.operations.history.History.local_with.Goals as goal

pub from_count-requires : goal.from_count-requires
from_count-requires c =
    let os = c.self.inside.operations in
    let o = c.args.op.now in
    let within : local_count (add os o) ≤ next_seq (add os o) = local_count-within (add os o) (IsAscending-add os o c.self.invariant.0.ascending) in
    let most = next_seq-add os o in
    let before : next_seq os ≤ 2 ^ 63 = c.self.invariant.0.small in
    let small : o.seq < 2 ^ 63 = c.requires.small in
    rw c.local_with.ensures (omega arith)
