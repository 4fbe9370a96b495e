use Rattle.audit.proofs.Glue.{audited_ok, audited_uncaused}
use Rattle.audit.proofs.laws.a_merge_of_moves_audits.Goals as goal

pub returns : goal.returns
returns c = record { made = audited_ok; halted = audited_uncaused }
