use Rattle.front.specs.Rule as spec
use Rattle.front.specs.RuleView.{rule_view}
use Rattle.front.proofs.Calls.{on_err, begun_none}
use Rattle.front.proofs.Turns.{turned_broken}
use Rattle.front.proofs.rule.answer_plainly.Goals as goal

-- nothing is done for a head that can't be read
pub returns-in_err-broken_page-in-Broken-clause-err : goal.returns-in_err-broken_page-in-Broken-clause-err
returns-in_err-broken_page-in-Broken-clause-err g c =
    on_err c.from_residual.result _ (λ q _. begun_none g.S.Service.answers (spec.work_by (rule_view c.args.rule.now) (g.S.Service.name c.args.service.now) (g.S.Service.fields c.args.service.now) q) c.args.service.now)

pub returns-in_ok-broken_page-in-Broken-clause-ok : goal.returns-in_ok-broken_page-in-Broken-clause-ok
returns-in_ok-broken_page-in-Broken-clause-ok g c = λ q is.
    turned_broken g.S.Service.answers (g.S.Service.name c.args.service.now) (g.S.Service.fields c.args.service.now) (rule_view c.args.rule.now) c.args.whole.now c.in-Broken.fault c.args.service.now c.in_ok-broken_page-in-Broken.field-0 q c.in-Broken.is is
    c.in_ok-broken_page-in-Broken.ensures
