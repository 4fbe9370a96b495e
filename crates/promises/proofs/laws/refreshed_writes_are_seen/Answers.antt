use Rattle.promises.proofs.Promised.{refreshed_writes_are_seen}
use Rattle.promises.proofs.laws.refreshed_writes_are_seen.Goals as goal

pub returns : goal.returns
returns c = refreshed_writes_are_seen
