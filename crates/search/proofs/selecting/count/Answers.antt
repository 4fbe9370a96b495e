use Rattle.search.proofs.Turns.{count-length}
use Rattle.search.proofs.selecting.count.Goals as goal

pub returns : goal.returns
returns c = count-length c.args.queries.now
