use Rattle.master.specs.Decide.{master_step}
use Rattle.world.specs.World.{decided}
use Rattle.world.proofs.Deciding.{after_made, refused_as}
use Rattle.world.proofs.nodes.Nodes.ask.Goals as goal

pub returns-in-Ok-clause-happened : goal.returns-in-Ok-clause-happened
returns-in-Ok-clause-happened c = after_made c.args.self.now.world c.decide.new.self.world decided (master_step c.args.self.now.world.master c.args.request) c.in-Ok.decision c.in-Ok.ensures.decided

pub returns-in-Err-clause-happened : goal.returns-in-Err-clause-happened
returns-in-Err-clause-happened c =
    refused_as c.refused_by_master.result c.args.self.now.world c.decide.new.self.world decided (master_step c.args.self.now.world.master c.args.request) c.in-Err.fault c.refused_by_master.ensures c.in-Err.ensures.decided c.in-Err.ensures.stays
