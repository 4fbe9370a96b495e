use Rattle.op.proofs.OperationLaws.{add-add}
use Rattle.op.proofs.laws.either_order.Goals as goal

pub returns : goal.returns
returns c = add-add
