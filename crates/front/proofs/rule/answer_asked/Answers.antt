use Rattle.wire.specs.Reading as read
use Rattle.wire.specs.Requests.{good}
use Rattle.front.specs.Admission.{admitted}
use Rattle.front.specs.Greeting.{is_head}
use Rattle.front.specs.Page.{headed}
use Rattle.front.specs.Rule as spec
use Rattle.front.specs.RuleView.{admission_view, rule_view}
use Rattle.front.proofs.Calls.{on_err}
use Rattle.front.proofs.Greetings.{begun_answered}
use Rattle.front.proofs.Turns.{turned_again}
use Rattle.front.proofs.rule.answer_asked.Goals as goal

-- the page was made, and isn't cut to its head
pub returns-in_err-headed-clause-err : goal.returns-in_err-headed-clause-err
returns-in_err-headed-clause-err g c =
    on_err c.from_residual-in_err-headed.result _ (begun_answered c.args.rule.now.greets g.S.Service.answers (g.S.Service.name c.args.service.now) _ c.args.service.now _ _ c.in_ok-page.ensures.ok.answered)

pub returns-clause-ok : goal.returns-clause-ok
returns-clause-ok g c =
    let name = g.S.Service.name c.args.service.now in
    let fields = g.S.Service.fields c.args.service.now in
    let rule = rule_view c.args.rule.now in
    let r = read.request_view c.args.request.now in
    turned_again c.args.rule.now.greets g.S.Service.answers name (spec.work_by rule name fields (good r)) (λ why out. spec.admitted_page (admitted rule.admission r.sender) rule name fields r why out) (headed (is_head r)) c.args.service.now c.in_ok-page.page c.in_ok-headed.field-0 c.answer_whole.new.service
    c.in_ok-page.ensures.ok c.in_ok-headed.ensures
