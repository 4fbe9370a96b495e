use Rattle.std.proofs.Common.{ap, refl, subst}
use Rattle.doc.specs.Outcome.{Gives}
use Rattle.master.specs.Decide.{master_step}
use Rattle.master.specs.Fault.{fault_of}
use Rattle.world.specs.Nodes.{copies_of, IsFollowed, WorldData}
use Rattle.world.specs.World.{World, decided_in}
use Rattle.world.proofs.Doing.{world_with}
use Rattle.world.proofs.Deciding.{decides}
use Rattle.world.proofs.nodes.Nodes.decide.Goals as goal

pub returns-clause-decided : goal.returns-clause-decided
returns-clause-decided c =
    let inside = c.self.inside in
    let ls = inside.copies.items in
    let ms = inside.messages.items in
    let os = inside.acknowledged.items in
    let after = c.follow.new.copies.items in
    let told = c.follow.new.messages.items in
    let decision = c.in-Ok.decision in
    let copy = c.in-Ok-added.copy in
    let followed : IsFollowed c.step-made.result c.follow.result decision copy ls after ms told = rw (c.room.ensures.copies, c.room.ensures.messages) at c.follow.ensures in
    subst (λ (w : World). Gives fault_of (λ d. (world_with inside.mapping c.step-made.new.self.state (copies_of after) told os, d)) c.follow.result (decided_in w (master_step w.master c.args.request)))
    (ap (λ (n : WorldData). n.world) c.self.view_is)
    (decides inside.mapping ls after ms told os inside.master c.step-made.new.self c.args.request (master_step inside.master.state c.args.request) decision copy c.self.invariant.0
    c.step-made.result c.follow.result c.in-Ok.ensures.decision c.in-Ok-added.ensures.copy c.step-made.ensures.done c.step-made.ensures.refused (c.step-made.ensures.in_memory refl c.self.invariant.0) followed)
