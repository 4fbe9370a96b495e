use Rattle.promises.proofs.SeenAtCopies.{writes_are_seen_at_copies}
use Rattle.promises.proofs.laws.writes_are_seen_at_copies.Goals as goal

pub returns : goal.returns
returns g c = writes_are_seen_at_copies g.row.J.Denot g.J.IndexName.index.mapping
