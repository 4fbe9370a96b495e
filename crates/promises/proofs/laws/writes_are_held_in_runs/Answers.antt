use Rattle.promises.proofs.Held.{writes_are_held_in_runs}
use Rattle.promises.proofs.laws.writes_are_held_in_runs.Goals as goal

pub returns : goal.returns
returns g c = writes_are_held_in_runs g.row.J.Denot g.J.IndexName.index.mapping
