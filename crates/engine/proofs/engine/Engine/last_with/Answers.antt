use Rattle.std.proofs.Common.{Some, ap, ◌∙◌}
use Rattle.op.specs.Records.{operations}
use Rattle.engine.proofs.AheadLaws.{behind_some, behind_none}
use Rattle.engine.proofs.engine.Engine.last_with.Goals as goal

-- one of those behind is the last
pub returns-in-Some : goal.returns-in-Some
returns-in-Some c = ap (λ l. Some l) c.last_of.ensures ∙ behind_some (operations c.args.self.now.records) c.args.ahead.now c.args.id.now _ c.in-Some.ensures

pub returns-in-None : goal.returns-in-None
returns-in-None c = c.last.ensures ∙ behind_none (operations c.args.self.now.records) c.args.ahead.now c.args.id.now c.in-None.ensures
