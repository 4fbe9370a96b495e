use Rattle.std.proofs.Common.{sym}
use Rattle.audit.proofs.Caused.{let_of}
use Rattle.audit.proofs.stage.MakingStage.number.Goals as goal

pub returns-clause-none : goal.returns-clause-none
returns-clause-none c = λ e k can. c.far.ensures.none e k (let_of c.args.self.now.world.world c.args.node k c.args.next.now (sym c.if-not-needs.ensures) can)
