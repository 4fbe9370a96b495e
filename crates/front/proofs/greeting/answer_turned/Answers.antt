use Rattle.front.proofs.Calls.{on_err, begun_none}
use Rattle.front.proofs.greeting.answer_turned.Goals as goal

pub returns-in_err-turned-clause-err : goal.returns-in_err-turned-clause-err
returns-in_err-turned-clause-err g c = on_err c.from_residual.result _ (begun_none g.S.Service.answers _ c.args.service.now)
