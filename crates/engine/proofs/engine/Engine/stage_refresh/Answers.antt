use Rattle.std.proofs.Common.{◌≤◌, sym, subst}
use Rattle.engine.specs.Contents.{EngineData, ShowingData, KeepsBegun}
use Rattle.engine.specs.Published.{IsFronted}
use Rattle.engine.proofs.BegunLaws.{keeps-fronted}
use Rattle.engine.proofs.engine.Engine.stage_refresh.Goals as goal

-- a segment that comes bears the next number
pub invariant_of-result : goal.invariant_of-result
invariant_of-result c =
    let before = c.self.inside.showing in
    let after = c.in_ok-showing.showing in
    let fronted = subst (λ (e : EngineData). IsFronted e.next e.published after.published) (sym c.self.view_is) c.in_ok-showing.ensures.numbers in
    let rises = subst (λ (e : EngineData). e.next ≤ after.next) (sym c.self.view_is) c.in_ok-showing.ensures.rises in
    (subst (λ (s : ShowingData). KeepsBegun s after) (sym c.of.ensures) (keeps-fronted before after fronted rises), tt)
