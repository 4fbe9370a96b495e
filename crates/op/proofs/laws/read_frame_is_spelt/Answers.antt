use Rattle.op.proofs.Groups.{frame_spelt}
use Rattle.op.proofs.laws.read_frame_is_spelt.Goals as goal

pub returns : goal.returns
returns c = frame_spelt
