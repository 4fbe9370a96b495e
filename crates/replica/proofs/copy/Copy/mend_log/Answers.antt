use Rattle.std.proofs.Common.{◌≡◌, ap}
use Rattle.replica.specs.Logged.{Logged}
use Rattle.replica.proofs.LogLaws.{mended_logged}
use Rattle.replica.proofs.copy.Copy.mend_log.Goals as goal

pub invariant_of-self : goal.invariant_of-self
invariant_of-self g c opened =
    let held = g.D.LogDevice.bytes c.self.inside.log.device in
    let is : held ≡ c.args.self.now.log = ap (λ (l : Logged). l.log) c.self.view_is in
    mended_logged held c.args.self.now.log _ c.requires.0 c.args.torn c.self.inside.state.copy.records _ _ is c.requires.1 c.in-Ok.ensures.ok c.in-Ok.ensures.groups (c.self.invariant opened)
