use Rattle.std.proofs.Common.{◌≡◌, Ok, ap, subst}
use Rattle.std.proofs.lemmas.Result.{err_from_is_err_and}
use Rattle.doc.specs.Outcome.{Fails}
use Rattle.replica.specs.declared.input.Input.TheVariants.{Write as Client}
use Rattle.replica.specs.Logged.{Logged}
use Rattle.replica.specs.Copy.{Copy}
use Rattle.replica.specs.Fault.{fault_of}
use Rattle.replica.specs.Planned.{stepped_by}
use Rattle.replica.specs.Step.{copy_step}
use Rattle.replica.proofs.LogLaws.{recorded}
use Rattle.replica.proofs.copy.Copy.prepare_write.Goals as goal

pub returns-in_err-planned-clause-step : goal.returns-in_err-planned-clause-step
returns-in_err-planned-clause-step g c opened =
    let s = c.args.self.now in
    let e = c.in_err-planned.field-0.0 in
    let copy : c.self.inside.state.copy ≡ s.copy = ap (λ (l : Logged). l.copy) c.self.view_is in
    let p = err_from_is_err_and c.from_residual.result c.from_residual.ensures.1 in
    rw (p.1, p.2) (subst (λ (x : Copy). Fails fault_of e (copy_step x (Client c.args.write))) copy c.in_err-planned.ensures.gives)

pub returns-clause-step : goal.returns-clause-step
returns-clause-step g c opened =
    let s = c.args.self.now in
    let planned = c.in_ok-planned.planned in
    let copy : c.self.inside.state.copy ≡ s.copy = ap (λ (l : Logged). l.copy) c.self.view_is in
    let gives = subst (λ (x : Copy). copy_step x (Client c.args.write) ≡ Ok (stepped_by x planned)) copy c.in_ok-planned.ensures.gives in
    recorded s.copy planned c.prepare_record.result (copy_step s.copy (Client c.args.write)) gives c.prepare_record.ensures.step c.prepare_record.ensures.memory
