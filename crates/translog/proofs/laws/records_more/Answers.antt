use Rattle.translog.proofs.PieceWriting.{more_together}
use Rattle.translog.proofs.laws.records_more.Goals as goal

pub returns : goal.returns
returns c = more_together
