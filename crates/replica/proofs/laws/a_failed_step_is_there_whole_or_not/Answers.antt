use Rattle.replica.proofs.Failures.{found_again}
use Rattle.replica.proofs.laws.a_failed_step_is_there_whole_or_not.Goals as goal

pub returns : goal.returns
returns c = found_again
