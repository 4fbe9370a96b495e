use Rattle.promises.proofs.InTurn.{promotions_are_followed}
use Rattle.promises.proofs.laws.promotions_are_followed.Goals as goal

pub returns : goal.returns
returns g c = promotions_are_followed g.row.J.Denot g.J.IndexName.index.mapping
