use Rattle.replica.proofs.Accepted.{write_is_there}
use Rattle.replica.proofs.laws.a_write_is_got.Goals as goal

pub returns : goal.returns
returns c = write_is_there
