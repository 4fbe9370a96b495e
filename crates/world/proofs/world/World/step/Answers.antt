use Rattle.world.proofs.Reaching.{reached_on, reached_held, reached_in_sync}
use Rattle.world.proofs.world.World.step.Goals as goal

pub invariant_of-self : goal.invariant_of-self
invariant_of-self c = reached_on c.step.result c.self.inside.nodes.world c.step.new.self.world c.args.event.now c.self.invariant c.step.ensures.happened c.step.ensures.stays

pub returns-clause-held : goal.returns-clause-held
returns-clause-held c = reached_held c.step.new.self.world (reached_on c.step.result c.self.inside.nodes.world c.step.new.self.world c.args.event.now c.self.invariant c.step.ensures.happened c.step.ensures.stays)

pub returns-clause-in_sync : goal.returns-clause-in_sync
returns-clause-in_sync c = reached_in_sync c.step.new.self.world (reached_on c.step.result c.self.inside.nodes.world c.step.new.self.world c.args.event.now c.self.invariant c.step.ensures.happened c.step.ensures.stays)
