use Rattle.audit.proofs.Audits.{differing_none, missing_none, uncaused_none, uncaused_once}
use Rattle.audit.proofs.laws.refused_journals_are_of_no_run.Goals as goal

pub returns : goal.returns
returns c = record { differs = differing_none; missing = missing_none; uncaused = uncaused_none; one_place = uncaused_once }
