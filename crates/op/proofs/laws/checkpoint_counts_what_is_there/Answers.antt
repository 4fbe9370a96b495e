use Rattle.op.proofs.OperationLaws.{below_local_count, at_local_count}
use Rattle.op.proofs.laws.checkpoint_counts_what_is_there.Goals as goal

pub returns-clause-counted : goal.returns-clause-counted
returns-clause-counted c = below_local_count

pub returns-clause-no_more : goal.returns-clause-no_more
returns-clause-no_more c = at_local_count
