use Rattle.std.proofs.Common.{◌≡◌, sym, ap, subst, ◌∙◌}
use Rattle.world.specs.Held.{Held}
use Rattle.world.specs.Nodes.{WorldData}
use Rattle.world.specs.World.{World, world_after, world_of}
use Rattle.world.proofs.Holds.{always_held}
use Rattle.audit.proofs.making.make.Goals as goal

-- the world is that of events, over every list of which it holds
pub returns-in-Ok-clause-held : goal.returns-in-Ok-clause-held
returns-in-Ok-clause-held c =
    let merged = c.in-Ok.ensures.ok in
    let start = ap (λ (w : WorldData). w.world) c.in_ok-making.ensures ∙ c.in_ok-world.ensures.world in
    let is : c.into_world.result.world ≡ world_of c.args.mapping.now c.args.copies merged.0 = ap (λ (w : WorldData). w.world) c.into_world.ensures ∙ merged.2 ∙ ap (λ (w : World). world_after w merged.0) start in
    subst (λ (w : World). Held w) (sym is) (always_held c.args.mapping.now c.args.copies merged.0 c.requires.size.0)
