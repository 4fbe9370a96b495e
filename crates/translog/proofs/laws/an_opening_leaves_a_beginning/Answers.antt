use Rattle.translog.proofs.FramesLaws.{a_beginning}
use Rattle.translog.proofs.laws.an_opening_leaves_a_beginning.Goals as goal

pub returns : goal.returns
returns c = a_beginning
