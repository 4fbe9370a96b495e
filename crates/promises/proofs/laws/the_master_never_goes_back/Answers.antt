use Rattle.promises.proofs.InTurn.{master_never_back}
use Rattle.promises.proofs.laws.the_master_never_goes_back.Goals as goal

pub returns : goal.returns
returns g c = master_never_back g.row.J.Denot g.J.IndexName.index.mapping
