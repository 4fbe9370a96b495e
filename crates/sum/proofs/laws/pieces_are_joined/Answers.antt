use Rattle.sum.proofs.Pieces.{joined}
use Rattle.sum.proofs.laws.pieces_are_joined.Goals as goal

pub returns : goal.returns
returns c = joined
