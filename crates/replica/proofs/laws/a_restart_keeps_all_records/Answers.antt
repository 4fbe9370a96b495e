use Rattle.replica.proofs.Accepted.{restart_keeps}
use Rattle.replica.proofs.laws.a_restart_keeps_all_records.Goals as goal

pub returns : goal.returns
returns c = record { records = λ x s e. (restart_keeps x s e).0; point = λ x s e. (restart_keeps x s e).1 }
