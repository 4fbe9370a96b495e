use Rattle.promises.proofs.Connections.{goes_on}
use Rattle.promises.proofs.laws.connections_go_on.Goals as goal

pub returns : goal.returns
returns g c = goes_on g.S.Service.answers g.S.Resumable.knows
