use Rattle.std.proofs.Common.{◌≡◌, [], false, ap, ◌∙◌}
use Rattle.master.specs.declared.state.State.{State}
use Rattle.world.proofs.Begun.{begun_new}
use Rattle.audit.proofs.ruler.Ruler.begun.Goals as goal

pub returns-in-Ok : goal.returns-in-Ok
returns-in-Ok c =
    let none : c.new-2.result.bytes.items ≡ [] = c.new-2.ensures.bytes ∙ c.new.ensures.items in
    ap (λ (s : State). record { state = s; closed = false }) (begun_new c.args.copies c.new-2.result.bytes.items c.in-Ok.master.state none c.in-Ok.ensures.state)
