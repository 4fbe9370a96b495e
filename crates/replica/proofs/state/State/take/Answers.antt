use Rattle.std.proofs.Common.{sym, subst}
use Rattle.std.proofs.lemmas.Result.{err_from_is_err_and}
use Rattle.doc.specs.Outcome.{Gives}
use Rattle.replica.specs.Fault.{fault_of}
use Rattle.replica.specs.Planned.{handled_step}
use Rattle.replica.specs.Step.{Step, take_content, take_faults}
use Rattle.replica.proofs.Settling.{fails_on, settled_passed, settled_refused}
use Rattle.replica.proofs.state.State.take.Goals as goal

pub returns-in_err-check-clause-gives : goal.returns-in_err-check-clause-gives
returns-in_err-check-clause-gives c =
    let s = c.args.self.now.copy in
    let m = c.args.message in
    let p = err_from_is_err_and c.from_residual.result c.from_residual.ensures.1 in
    rw (p.1, p.2) (fails_on c.in_err-check.field-0.0 _ _ (λ f h. settled_refused (take_faults s m) (take_content s m.from m.term m.content) f h) c.in_err-check.ensures.gives)

pub returns-clause-gives : goal.returns-clause-gives
returns-clause-gives c =
    let s = c.args.self.now.copy in
    let m = c.args.message in
    subst (λ (step : Step). Gives fault_of (handled_step s) c.take_content.result step)
    (sym (settled_passed (take_faults s m) (take_content s m.from m.term m.content) c.in_ok-check.field-0 c.in_ok-check.ensures.gives)) c.take_content.ensures.gives
