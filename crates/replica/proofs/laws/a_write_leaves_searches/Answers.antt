use Rattle.replica.proofs.Accepted.{write_leaves}
use Rattle.replica.proofs.laws.a_write_leaves_searches.Goals as goal

pub returns : goal.returns
returns c = write_leaves
