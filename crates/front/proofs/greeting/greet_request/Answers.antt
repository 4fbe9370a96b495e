use Rattle.std.proofs.Common.{true}
use Rattle.wire.specs.Reading as read
use Rattle.front.specs.Greeting as spec
use Rattle.front.proofs.Calls.{on_err}
use Rattle.front.proofs.Greetings.{begun_answered}
use Rattle.front.proofs.Turns.{turned_if_ok}
use Rattle.front.proofs.greeting.greet_request.Goals as goal

-- what was asked is done, but no page is made of it
pub returns-clause-err : goal.returns-clause-err
returns-clause-err g c =
    on_err c.welcomed.result _ (begun_answered true g.S.Service.answers (g.S.Service.name c.args.service.now) _ c.args.service.now _ _ c.in_ok-page.ensures.ok.answered)

pub returns-clause-ok : goal.returns-clause-ok
returns-clause-ok g c =
    let answers = g.S.Service.answers in
    let name = g.S.Service.name c.args.service.now in
    let fields = g.S.Service.fields c.args.service.now in
    let r = read.request_view c.args.request.now in
    turned_if_ok answers name (spec.greeted_work name fields r) (spec.welcome_of name r) c.args.service.now c.in_ok-page.page c.turned_answer.new.service c.welcomed.result
    c.in_ok-page.ensures.ok (rw c.in_ok-page.ensures.name at c.welcomed.ensures.page)
