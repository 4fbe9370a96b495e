use Rattle.promises.proofs.AtCopies.{writes_are_found_at_copies}
use Rattle.promises.proofs.laws.writes_are_found_at_copies.Goals as goal

pub returns : goal.returns
returns g c = writes_are_found_at_copies g.row.J.Denot g.J.IndexName.index.mapping
