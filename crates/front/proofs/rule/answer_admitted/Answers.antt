use Rattle.front.proofs.Calls.{on_err}
use Rattle.front.proofs.Greetings.{begun_answered}
use Rattle.front.proofs.rule.answer_admitted.Goals as goal

-- what was asked is done, and only its page isn't spelled
pub returns-in_err-opened_page-clause-err : goal.returns-in_err-opened_page-clause-err
returns-in_err-opened_page-clause-err g c =
    on_err c.from_residual-in_err-opened_page.result _ (begun_answered c.args.rule.now.greets g.S.Service.answers (g.S.Service.name c.args.service.now) _ c.args.service.now _ _ c.in_ok-page.ensures.ok.answered)
