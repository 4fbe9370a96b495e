use Rattle.shard.proofs.Promotions.{always_sent}
use Rattle.shard.proofs.ready.promote.Goals as goal

pub returns-in-Ok-clause-denied : goal.returns-in-Ok-clause-denied
returns-in-Ok-clause-denied g c = always_sent _ c.args.master.now.state c.args.id (record { state = c.step.new.self.state; decision = c.in-Ok.decision }) c.in-Ok.ensures.done.decided
