use Rattle.std.proofs.Common.{◌≡◌, false, ap, ◌∙◌}
use Rattle.std.proofs.Common.{Result, Ok}
use Rattle.translog.specs.Fault.{Fault}
use Rattle.master.specs.declared.state.State.{State}
use Rattle.master.specs.Logged.{Logged}
use Rattle.master.proofs.Decisions.{kept_log}
use Rattle.master.proofs.master.Master.close.Goals as goal

abbrev state_kept : State → Result State Fault
state_kept m = Ok m

pub returns-clause-kept : goal.returns-clause-kept
returns-clause-kept g c = λ is.
    let shut : c.self.inside.closed ≡ false = ap (λ l. l.closed) c.self.view_is ∙ is in
    let kept = kept_log (g.D.LogDevice.bytes c.self.inside.frames.device) c.self.inside.state (c.self.invariant.log shut) in
    rw c.into_device.ensures (kept ∙ ap (λ (l : Logged). state_kept l.state) c.self.view_is)
