use Rattle.translog.proofs.KeptLaws.{first_log_is}
use Rattle.translog.proofs.laws.the_first_form_is_kept.Goals as goal

pub returns : goal.returns
returns c = first_log_is
