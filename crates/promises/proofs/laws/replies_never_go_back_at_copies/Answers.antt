use Rattle.promises.proofs.InOrder.{never_back_at_copies}
use Rattle.promises.proofs.laws.replies_never_go_back_at_copies.Goals as goal

pub returns : goal.returns
returns g c = never_back_at_copies g.row.J.Denot g.J.IndexName.index.mapping
