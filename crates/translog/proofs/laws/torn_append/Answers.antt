use Rattle.translog.proofs.PieceWriting.{torn_more}
use Rattle.translog.proofs.laws.torn_append.Goals as goal

pub returns : goal.returns
returns c = torn_more
