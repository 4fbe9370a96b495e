use Rattle.std.proofs.Common.{◌∙◌, Result, true, sym}
use Rattle.std.specs.Prelude.{⊤}
use Rattle.wire.specs.Reading as read
use Rattle.front.specs.Fault.{Fault, fault_of}
use Rattle.front.specs.Greeting as spec
use Rattle.front.specs.Rule.{Turned}
use Rattle.front.specs.Work.{explained}
use Rattle.front.proofs.Calls.{on_err, begun_none}
use Rattle.front.proofs.Turns.{refused_by, turned_fault}
use Rattle.front.proofs.greeting.turned_answer.Goals as goal

pub returns-then-is_memory-clause-err : goal.returns-then-is_memory-clause-err
returns-then-is_memory-clause-err g c = begun_none g.S.Service.answers _ c.args.service.now

pub returns-in_err-refused_page-in-Err-clause-err : goal.returns-in_err-refused_page-in-Err-clause-err
returns-in_err-refused_page-in-Err-clause-err g c = on_err c.from_residual.result _ (begun_none g.S.Service.answers _ c.args.service.now)

pub returns-clause-ok : goal.returns-clause-ok
returns-clause-ok g c =
    let answers = g.S.Service.answers in
    let name = g.S.Service.name c.args.service.now in
    let fields = g.S.Service.fields c.args.service.now in
    let r = read.request_view c.args.request.now in
    let out = c.in_ok-refused_page-in-Err.field-0 in
    refused_by (λ (a : Result ⊤ Fault). Turned true answers name (spec.handled_work a (spec.turned_work name fields r)) (explained (spec.handled_work a (spec.turned_work name fields r)) true) c.args.service.now out c.args.service.now)
    (spec.handled name r) true out (fault_of c.in-Err.fault) (sym c.is_memory.ensures ∙ c.if-is_memory.false) (rw c.index.ensures at c.in-Err.ensures) c.in_ok-refused_page-in-Err.ensures
    (λ f is. turned_fault answers name f true c.args.service.now out is)
