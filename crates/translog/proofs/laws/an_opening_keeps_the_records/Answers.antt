use Rattle.translog.proofs.KeptLaws.{kept_stays}
use Rattle.translog.proofs.laws.an_opening_keeps_the_records.Goals as goal

pub returns : goal.returns
returns c = kept_stays
