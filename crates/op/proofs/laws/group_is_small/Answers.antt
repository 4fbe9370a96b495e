use Rattle.op.proofs.Groups.{small_group}
use Rattle.op.proofs.laws.group_is_small.Goals as goal

pub returns : goal.returns
returns c = small_group
