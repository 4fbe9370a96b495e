use Rattle.std.proofs.Common.{◌≡◌}
use Rattle.world.proofs.Mapped.{reached_mapped}
use Rattle.world.proofs.Searching.{of_found}
use Rattle.world.proofs.world.World.copy.Goals as goal

pub returns-clause-mapping : goal.returns-clause-mapping
returns-clause-mapping c = rw (← c.self.view_is) (of_found (λ x. x.mapping ≡ c.self.inside.nodes.world.mapping) c.self.inside.nodes.world c.args.id _ c.copy.result (reached_mapped c.self.inside.nodes.world c.self.invariant) c.copy.ensures.copy)
