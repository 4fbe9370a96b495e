use Rattle.std.proofs.Common.{sym}
use Rattle.query.proofs.Elements.{length-elements}
use Rattle.query.proofs.leaves.count.Goals as goal

pub returns : goal.returns
returns c = sym (length-elements c.args.values.now)
