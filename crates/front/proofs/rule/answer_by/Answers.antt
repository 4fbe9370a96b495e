use Rattle.front.proofs.Calls.{on_err}
use Rattle.front.proofs.Greetings.{begun_answered}
use Rattle.front.proofs.rule.answer_by.Goals as goal

-- the page was made, and isn't signed
pub returns-in_err-signed-clause-err : goal.returns-in_err-signed-clause-err
returns-in_err-signed-clause-err g c =
    on_err c.from_residual-in_err-signed.result _ (λ q is. begun_answered c.args.rule.now.greets g.S.Service.answers (g.S.Service.name c.args.service.now) _ c.args.service.now _ _ (c.in_ok-page.ensures.ok q is).answered)
