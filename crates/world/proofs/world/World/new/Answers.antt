use Rattle.world.proofs.Reaching.{reached_new, reached_held, reached_in_sync}
use Rattle.world.proofs.world.World.new.Goals as goal

pub invariant_of-result : goal.invariant_of-result
invariant_of-result c = reached_new c.in_ok-nodes.nodes.world c.args.mapping.now c.args.copies c.requires.0 c.in_ok-nodes.ensures

pub returns-clause-held : goal.returns-clause-held
returns-clause-held c = reached_held c.in_ok-nodes.nodes.world (reached_new c.in_ok-nodes.nodes.world c.args.mapping.now c.args.copies c.requires.0 c.in_ok-nodes.ensures)

pub returns-clause-in_sync : goal.returns-clause-in_sync
returns-clause-in_sync c = reached_in_sync c.in_ok-nodes.nodes.world (reached_new c.in_ok-nodes.nodes.world c.args.mapping.now c.args.copies c.requires.0 c.in_ok-nodes.ensures)
