use Rattle.cluster.proofs.Owned.{own_after}
use Rattle.cluster.proofs.own.OwnCell.enter.Goals as goal

pub invariant_of-self : goal.invariant_of-self
invariant_of-self g c = own_after c.self.inside.cell c.call.new.self c.self.inside.pass c.call.new.pass c.args.input c.call.result c.self.invariant c.call.ensures.ok c.call.ensures.err
