use Rattle.std.proofs.lemmas.Result.{IfOk-weaker, on_err_weaker}
use Rattle.replica.specs.Logged.{Logged}
use Rattle.node.specs.Replay.{IsIdle}
use Rattle.node.proofs.Halves.{committed, undone, unprepared}
use Rattle.std.proofs.Common.{subst, sym}
use Rattle.node.proofs.acting.act.Goals as goal

pub returns-in-Ok-clause-step : goal.returns-in-Ok-clause-step
returns-in-Ok-clause-step g c =
    let ready = c.in-Ok.ensures in
    IfOk-weaker c.finish.result _ _ (λ a done. committed c.args.copy.now c.prepare.new.self c.finish.new.copy c.args.input c.in-Ok.prepared a.own ready.prepared ready.untouched done) c.finish.ensures.done

pub returns-in-Ok-clause-err : goal.returns-in-Ok-clause-err
returns-in-Ok-clause-err g c =
    let idle = undone c.args.copy.now c.prepare.new.self c.in-Ok.prepared c.in-Ok.ensures.untouched in
    on_err_weaker c.finish.result (λ same. subst (λ (l : Logged). IsIdle c.args.copy.now l) (sym same) idle) c.finish.ensures.err

pub returns-in-Err-clause-step : goal.returns-in-Err-clause-step
returns-in-Err-clause-step g c =
    let step = unprepared c.args.copy.now c.prepare.new.self c.args.input c.in-Err.fault c.in-Err.ensures.prepared c.in-Err.ensures.untouched in
    rw c.thrice.ensures.own step
