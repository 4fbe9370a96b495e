use Rattle.promises.proofs.Promised.{writes_are_seen}
use Rattle.promises.proofs.laws.writes_are_seen.Goals as goal

pub returns : goal.returns
returns c = writes_are_seen
