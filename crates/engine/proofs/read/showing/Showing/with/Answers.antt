use Rattle.std.proofs.Common.{◌∙◌, ap, filter, refl, sym, subst}
use Rattle.std.specs.Arc.{arc_value}
use Rattle.std.proofs.lemmas.Result.{IfOk-weaker}
use Rattle.doc.specs.Mapping.{MappingData}
use Rattle.engine.specs.Answer.{SnapshotData}
use Rattle.engine.specs.Contents.{ShowingData}
use Rattle.engine.specs.Live.{changed_live, changed_segments, is_live}
use Rattle.engine.specs.Parts.{is_among}
use Rattle.engine.specs.Published.{AreBelow}
use Rattle.engine.proofs.PublishedLaws.{below-numbered, fronted-distinct, fronted-living, fronted-numbered}
use Rattle.engine.proofs.read.showing.Showing.with.Goals as goal

-- a part that comes bears the next number, which isn't given again
pub shown-requires-clause-below : goal.shown-requires-clause-below
shown-requires-clause-below c =
    let before = arc_value c.self.inside.parts in
    let parts = c.in_ok-parts.parts in
    let is = rw c.deref.ensures at c.in_ok-parts.ensures.published in
    let fronted = fronted-living c.self.inside.next before.published parts.published _ _ _ refl is in
    subst (λ n. AreBelow n parts.published) (sym c.saturating_add.ensures)
    (below-numbered before.published parts.published c.self.inside.next c.self.invariant.below (fronted-numbered c.self.inside.next before.published parts.published fronted))

pub shown-requires-clause-distinct : goal.shown-requires-clause-distinct
shown-requires-clause-distinct c =
    let before = arc_value c.self.inside.parts in
    let parts = c.in_ok-parts.parts in
    let is = rw c.deref.ensures at c.in_ok-parts.ensures.published in
    fronted-distinct before.published c.self.inside.next c.self.invariant.below c.self.invariant.distinct parts.published
    (fronted-living c.self.inside.next before.published parts.published _ _ _ refl is)

-- those in which a document is live are there
pub returns-clause-published : goal.returns-clause-published
returns-clause-published c =
    let inside = c.self.inside in
    let before = arc_value inside.parts in
    let parts = c.in_ok-parts.parts in
    let ids = c.args.ids.now in
    let es = (arc_value c.args.block).documents in
    let is = rw c.deref.ensures at c.in_ok-parts.ensures.published in
    let here = is
    ∙ ap (λ (m : MappingData). changed_segments (is_among ids) (record { number = inside.next; mapping = m; documents = es }) before.published before.live) (ap (λ (s : SnapshotData). s.mapping) (sym c.self.invariant.same))
    ∙ ap (λ (t : ShowingData). changed_segments (is_among ids) (record { number = t.next; mapping = t.snapshot.mapping; documents = es }) t.published t.live) c.self.view_is in
    IfOk-weaker c.shown.result _ _ (λ s made. ap (λ (t : ShowingData). t.published) made ∙ here) c.shown.ensures

pub returns-clause-live : goal.returns-clause-live
returns-clause-live c =
    let inside = c.self.inside in
    let before = arc_value inside.parts in
    let ids = c.args.ids.now in
    let es = (arc_value c.args.block).documents in
    let is = rw c.deref.ensures at c.in_ok-parts.ensures.live in
    let here = is
    ∙ ap (λ (m : MappingData). filter is_live (changed_live (is_among ids) (record { number = inside.next; mapping = m; documents = es }) before.live)) (ap (λ (s : SnapshotData). s.mapping) (sym c.self.invariant.same))
    ∙ ap (λ (t : ShowingData). filter is_live (changed_live (is_among ids) (record { number = t.next; mapping = t.snapshot.mapping; documents = es }) t.live)) c.self.view_is in
    IfOk-weaker c.shown.result _ _ (λ s made. ap (λ (t : ShowingData). t.live) made ∙ here) c.shown.ensures
