use Rattle.std.proofs.Common.{◌≡◌, refl, subst, sym, true, List}
use Rattle.std.specs.Arc.{arc_value}
use Rattle.doc.specs.Id.{Id}
use Rattle.engine.specs.Answer.{SnapshotData}
use Rattle.engine.specs.Contents.{EngineData}
use Rattle.engine.specs.Live.{changed_live}
use Rattle.engine.specs.Parts.{has_id, is_among}
use Rattle.engine.specs.Published.{Published, IsFronted}
use Rattle.engine.proofs.LivingLaws.{passing-live}
use Rattle.engine.proofs.PublishedLaws.{fronted-living}
use Rattle.engine.proofs.engine.Engine.showing_with.Goals as goal

-- a segment that comes bears the next number
pub returns-clause-numbers : goal.returns-clause-numbers
returns-clause-numbers c =
    let before = c.self.inside.showing in
    subst (λ (e : EngineData). IsFronted e.next e.published c.in_ok-showing.showing.published) c.self.view_is
    (fronted-living before.next before.published c.in_ok-showing.showing.published _ _ _ refl c.in_ok-showing.ensures.published)

-- none is dead
pub returns-clause-live : goal.returns-clause-live
returns-clause-live c =
    let before = c.self.inside.showing in
    let new : Published = record { number = before.next; mapping = before.snapshot.mapping; documents = (arc_value c.in_ok-block.block).documents } in
    passing-live c.in_ok-showing.showing.live (changed_live (is_among c.deref-3.result.now) new before.live) c.in_ok-showing.ensures.live

-- the documents stand at the ids alone
pub with-requires-clause-only : goal.with-requires-clause-only
with-requires-clause-only c = λ id has.
    subst (λ (is : List Id). is_among is id ≡ true) (sym c.deref-3.ensures.value)
    (c.in-Some.ensures.only id (subst (λ (b : SnapshotData). has_id id b.documents ≡ true) c.in_ok-block.ensures has))
