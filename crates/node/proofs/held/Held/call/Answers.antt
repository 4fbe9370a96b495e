use Rattle.node.proofs.Calls.{denied}
use Rattle.node.proofs.held.Held.call.Goals as goal

pub returns-clause-err : goal.returns-clause-err
returns-clause-err g c = denied c.args.self.now _ c.args.pass.now _ c.args.input c.add.result c.in_default.ensures.stands c.add.ensures.err
