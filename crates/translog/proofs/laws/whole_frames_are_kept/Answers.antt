use Rattle.translog.proofs.KeptLaws.{whole_kept}
use Rattle.translog.proofs.laws.whole_frames_are_kept.Goals as goal

pub returns : goal.returns
returns c = whole_kept
