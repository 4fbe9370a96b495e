use Rattle.std.proofs.Common.{◌≡◌, ◌∙◌, ap, sym, subst}
use Rattle.std.specs.Arc.{arc_value}
use Rattle.doc.specs.Mapping.{MappingData}
use Rattle.engine.specs.Answer.{SnapshotData}
use Rattle.engine.specs.Contents.{ShowingData, segments_shown}
use Rattle.engine.specs.Published.{Segments, AreBelow, AreGone, IsSwapped}
use Rattle.engine.proofs.PublishedLaws.{below-numbered, replaced-distinct, replaced-numbered, swapped}
use Rattle.engine.proofs.read.showing.Showing.swapped_by.Goals as goal

-- the number of the merged segment isn't given again
pub shown-requires-clause-below : goal.shown-requires-clause-below
shown-requires-clause-below c =
    let before = arc_value c.self.inside.parts in
    let replaced = rw (c.in-Some.is, c.deref.ensures, c.parts.ensures.published) at c.in_ok-after.ensures.swapped in
    subst (λ n. AreBelow n c.in-Some.parts.published) (sym c.saturating_add.ensures)
    (below-numbered before.published c.in-Some.parts.published c.self.inside.next c.self.invariant.below (replaced-numbered c.args.taken.now.published c.self.inside.next before.mapping before.published c.in-Some.parts.published replaced))

pub shown-requires-clause-distinct : goal.shown-requires-clause-distinct
shown-requires-clause-distinct c =
    let before = arc_value c.self.inside.parts in
    let replaced = rw (c.in-Some.is, c.deref.ensures, c.parts.ensures.published) at c.in_ok-after.ensures.swapped in
    replaced-distinct before.published c.self.inside.next c.self.invariant.below c.self.invariant.distinct c.args.taken.now.published c.in-Some.parts.published before.mapping replaced

pub returns-in_ok-showing-in-Some-clause-there : goal.returns-in_ok-showing-in-Some-clause-there
returns-in_ok-showing-in-Some-clause-there c =
    subst (λ (e : ShowingData). AreGone e.published c.args.taken.now.published → ⊥) c.self.view_is
    (rw (c.in-Some.is, c.deref.ensures, c.parts.ensures.published) at c.in_ok-after.ensures.there)

-- those that were taken bear numbers that were given, and not the greatest
pub returns-in_ok-showing-in-Some-clause-swapped : goal.returns-in_ok-showing-in-Some-clause-swapped
returns-in_ok-showing-in-Some-clause-swapped c =
    let taken = c.args.taken.now.published in
    let old : Segments = record { mapping = (arc_value c.self.inside.parts).mapping; published = (arc_value c.self.inside.parts).published; live = (arc_value c.self.inside.parts).live; next = c.self.inside.next } in
    let new : Segments = record { mapping = c.in-Some.parts.mapping; published = c.in-Some.parts.published; live = c.in-Some.parts.live; next = c.saturating_add.result } in
    let replaced = rw (c.in-Some.is, c.deref.ensures, c.parts.ensures.published) at c.in_ok-after.ensures.swapped in
    let was : old ≡ segments_shown c.args.self.now = ap (λ (m : MappingData). let o : Segments = record old { mapping = m } in o) (ap (λ (s : SnapshotData). s.mapping) (sym c.self.invariant.same)) ∙ ap segments_shown c.self.view_is in
    let is : new ≡ segments_shown c.in_ok-showing-in-Some.showing = ap segments_shown (sym c.in_ok-showing-in-Some.ensures) in
    subst (λ (s : Segments). IsSwapped taken (segments_shown c.args.self.now) s) is
    (subst (λ (o : Segments). IsSwapped taken o new) was
    (swapped taken old new c.requires.are c.self.invariant.below replaced c.saturating_add.ensures))

pub returns-in-None-clause-gone : goal.returns-in-None-clause-gone
returns-in-None-clause-gone c =
    let gone = rw (c.deref.ensures, c.parts.ensures.published) at c.in_ok-after.ensures.gone in
    λ none. subst (λ (e : ShowingData). AreGone e.published c.args.taken.now.published) c.self.view_is (gone c.in-None.is)
