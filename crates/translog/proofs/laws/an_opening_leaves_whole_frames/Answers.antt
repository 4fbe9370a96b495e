use Rattle.translog.proofs.FramesLaws.{whole_stays}
use Rattle.translog.proofs.laws.an_opening_leaves_whole_frames.Goals as goal

pub returns : goal.returns
returns c = whole_stays
