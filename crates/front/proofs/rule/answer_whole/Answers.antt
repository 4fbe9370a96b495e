use Rattle.std.proofs.Common.{◌∙◌, Result, sym}
use Rattle.std.specs.Prelude.{⊤}
use Rattle.wire.specs.Reading as read
use Rattle.front.specs.Admission.{admitted}
use Rattle.front.specs.Fault.{Fault, fault_of}
use Rattle.front.specs.Rule as spec
use Rattle.front.specs.RuleView.{admission_view, rule_view}
use Rattle.front.proofs.Calls.{on_err, begun_none}
use Rattle.front.proofs.Turns.{refused_by, turned_fault}
use Rattle.front.proofs.rule.answer_whole.Goals as goal

pub returns-then-is_memory-clause-err : goal.returns-then-is_memory-clause-err
returns-then-is_memory-clause-err g c = begun_none g.S.Service.answers _ c.args.service.now

pub returns-in_err-refused_page-in-Err-clause-err : goal.returns-in_err-refused_page-in-Err-clause-err
returns-in_err-refused_page-in-Err-clause-err g c = on_err c.from_residual.result _ (begun_none g.S.Service.answers _ c.args.service.now)

pub returns-clause-ok : goal.returns-clause-ok
returns-clause-ok g c =
    let answers = g.S.Service.answers in
    let name = g.S.Service.name c.args.service.now in
    let fields = g.S.Service.fields c.args.service.now in
    let rule = c.args.rule.now in
    let r = read.request_view c.args.request.now in
    let out = c.in_ok-refused_page-in-Err.field-0 in
    refused_by (λ (a : Result ⊤ Fault). spec.Turned rule.greets answers name (spec.admitted_work a rule.greets name fields r) (λ why page. spec.admitted_page a (rule_view rule) name fields r why page) c.args.service.now out c.args.service.now)
    (admitted (admission_view rule.admission) (read.sender_view c.args.request.now.sender)) rule.greets out (fault_of c.in-Err.fault) (sym c.is_memory.ensures ∙ c.if-is_memory.false) c.in-Err.ensures c.in_ok-refused_page-in-Err.ensures
    (λ f is. turned_fault answers name f rule.greets c.args.service.now out is)
