use Rattle.std.proofs.Common.{◌≡◌, false, ap, ◌∙◌}
use Rattle.master.specs.Logged.{Logged}
use Rattle.master.proofs.Decisions.{kept_log, kept_stays, same_kept}
use Rattle.master.proofs.master.Master.reopen.Goals as goal

pub returns-in-Ok-clause-keeps : goal.returns-in-Ok-clause-keeps
returns-in-Ok-clause-keeps g c = rw (← c.self.view_is) (kept_stays (g.D.LogDevice.bytes c.self.inside.frames.device) (g.D.LogDevice.bytes c.opened.new.frames.device) c.in-Ok.ensures.left)

pub returns-in-Ok-clause-same : goal.returns-in-Ok-clause-same
returns-in-Ok-clause-same g c = λ is.
    let shut : c.self.inside.closed ≡ false = ap (λ l. l.closed) c.self.view_is ∙ is in
    let kept = kept_log (g.D.LogDevice.bytes c.self.inside.frames.device) c.self.inside.state (c.self.invariant.log shut) in
    same_kept (g.D.LogDevice.bytes c.self.inside.frames.device) c.self.inside.state c.in-Ok.state kept c.in-Ok.ensures.state ∙ ap (λ (l : Logged). l.state) c.self.view_is

pub returns-in-Ok-clause-left : goal.returns-in-Ok-clause-left
returns-in-Ok-clause-left g c = rw (← c.self.view_is) c.in-Ok.ensures.left

pub returns-in-Err-clause-keeps : goal.returns-in-Err-clause-keeps
returns-in-Err-clause-keeps g c = rw (← c.self.view_is) (kept_stays (g.D.LogDevice.bytes c.self.inside.frames.device) (g.D.LogDevice.bytes c.opened.new.frames.device) c.in-Err.ensures.refused.left)
