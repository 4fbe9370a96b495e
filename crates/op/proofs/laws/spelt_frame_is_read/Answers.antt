use Rattle.op.proofs.Groups.{frame_again}
use Rattle.op.proofs.laws.spelt_frame_is_read.Goals as goal

pub returns : goal.returns
returns c = frame_again
