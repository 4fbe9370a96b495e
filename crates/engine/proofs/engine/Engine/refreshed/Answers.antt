use Rattle.std.proofs.Common.{◌≡◌, ◌≤◌, ◌∙◌, ◌∷◌, ap, arith, filter, refl, sym, subst, map, List}
use Rattle.std.specs.Arc.{arc_value}
use Rattle.doc.specs.Id.{Id}
use Rattle.op.specs.Documents.{Documents, documents}
use Rattle.op.specs.Records.{operations, shown}
use Rattle.engine.specs.Answer.{SnapshotData}
use Rattle.engine.specs.Contents.{EngineData, ShowingData}
use Rattle.engine.specs.Entry.{entry_view}
use Rattle.engine.specs.Live.{changed_live, changed_segments, is_live, living, AreLive}
use Rattle.engine.specs.Parts.{is_among}
use Rattle.engine.specs.Published.{Published, IsFronted}
use Rattle.engine.specs.SnapshotChange.{is_written, next_segment, OnlyOps}
use Rattle.engine.proofs.LivingLaws.{passing-live}
use Rattle.engine.proofs.PublishedLaws.{fronted-alone, fronted-living}
use Rattle.engine.proofs.RefreshLaws.{are-where, changed_live-same, refreshed, only_among}
use Rattle.engine.proofs.engine.Engine.refreshed.Goals as goal

-- the documents of some ids are at these ids alone
pub with-requires-clause-only : goal.with-requires-clause-only
with-requires-clause-only c =
    let ids = c.in-Some.ids.items in
    let es = map entry_view c.in_ok-entries.entries.items in
    let made : (arc_value c.in_ok-block-2.block).documents ≡ es = ap (λ (s : SnapshotData). s.documents) (c.in_ok-block-2.ensures.ok ∙ c.in_ok-block.ensures) ∙ ap (map entry_view) c.deref-2.ensures.value in
    rw (c.deref-3.ensures.value, made)
    (only_among (operations c.self.inside.history.records) ids es (rw c.deref.ensures.value at c.in_ok-entries.ensures.found))

-- with the others as they were they are the documents of all records
pub returns-clause-snapshot : goal.returns-clause-snapshot
returns-clause-snapshot c =
    let inside = c.self.inside in
    let ids = c.in-Some.ids.items in
    let es = map entry_view c.in_ok-entries.entries.items in
    let made : (arc_value c.in_ok-block-2.block).documents ≡ es = ap (λ (s : SnapshotData). s.documents) (c.in_ok-block-2.ensures.ok ∙ c.in_ok-block.ensures) ∙ ap (map entry_view) c.deref-2.ensures.value in
    let at = rw c.deref.ensures.value at c.in_ok-entries.ensures.found in
    let others = rw c.in-Some.is at c.in_ok-ids.ensures.others in
    let all = refreshed (operations inside.history.records) (shown inside.history.records inside.point) ids es c.in_ok-entries.ensures.sorted at others in
    (rw (c.deref-3.ensures.value, made, c.self.invariant.0.same) at c.in_ok-showing-2.ensures.snapshot)
    ∙ ap (λ (ds : Documents). let s : SnapshotData = record { mapping = arc_value inside.mapping; documents = ds } in s) all
    ∙ ap (λ (e : EngineData). let s : SnapshotData = record { mapping = e.mapping; documents = documents (operations e.records) } in s) c.self.view_is

-- a segment that comes bears the next number
pub returns-clause-numbers : goal.returns-clause-numbers
returns-clause-numbers c =
    let before = c.self.inside.showing in
    subst (λ (e : EngineData). IsFronted e.next e.published c.in_ok-showing-2.showing.published) c.self.view_is
    (fronted-living before.next before.published c.in_ok-showing-2.showing.published _ _ _ refl c.in_ok-showing-2.ensures.published)

pub returns-clause-rises : goal.returns-clause-rises
returns-clause-rises c = subst (λ (e : EngineData). e.next ≤ c.in_ok-showing-2.showing.next) c.self.view_is c.in_ok-showing-2.ensures.rises

-- the documents of the ids that changed are those that were written
pub returns-clause-published : goal.returns-clause-published
returns-clause-published c =
    let inside = c.self.inside in
    let before = inside.showing in
    let v : EngineData = record { mapping = arc_value inside.mapping; records = inside.history.records; point = inside.point; published = before.published; live = before.live; next = before.next } in
    let ids = c.in-Some.ids.items in
    let es = map entry_view c.in_ok-entries.entries.items in
    let made : (arc_value c.in_ok-block-2.block).documents ≡ es = ap (λ (s : SnapshotData). s.documents) (c.in_ok-block-2.ensures.ok ∙ c.in_ok-block.ensures) ∙ ap (map entry_view) c.deref-2.ensures.value in
    let at = rw c.deref.ensures.value at c.in_ok-entries.ensures.found in
    let are : (id : Id) → is_among ids id ≡ is_written v id = rw c.in-Some.is at c.in_ok-ids.ensures.are in
    let new : Documents → Published = λ ds. record { number = before.next; mapping = arc_value inside.mapping; documents = ds } in
    λ ops.
    (rw (c.deref-3.ensures.value, made, c.self.invariant.0.same) at c.in_ok-showing-2.ensures.published)
    ∙ ap (λ (ds : Documents). changed_segments (is_among ids) (new ds) before.published before.live) (are-where (operations inside.history.records) ids es c.in_ok-entries.ensures.sorted at (is_written v) are)
    ∙ ap (λ (ls : List Documents). living (next_segment v ∷ before.published) ls) (changed_live-same (is_among ids) (is_written v) are (next_segment v) before.live)
    ∙ ap (λ (e : EngineData). changed_segments (is_written e) (next_segment e) e.published e.live) c.self.view_is

pub returns-clause-kept : goal.returns-clause-kept
returns-clause-kept c =
    let inside = c.self.inside in
    let before = inside.showing in
    let v : EngineData = record { mapping = arc_value inside.mapping; records = inside.history.records; point = inside.point; published = before.published; live = before.live; next = before.next } in
    let ids = c.in-Some.ids.items in
    let es = map entry_view c.in_ok-entries.entries.items in
    let made : (arc_value c.in_ok-block-2.block).documents ≡ es = ap (λ (s : SnapshotData). s.documents) (c.in_ok-block-2.ensures.ok ∙ c.in_ok-block.ensures) ∙ ap (map entry_view) c.deref-2.ensures.value in
    let at = rw c.deref.ensures.value at c.in_ok-entries.ensures.found in
    let are : (id : Id) → is_among ids id ≡ is_written v id = rw c.in-Some.is at c.in_ok-ids.ensures.are in
    let new : Documents → Published = λ ds. record { number = before.next; mapping = arc_value inside.mapping; documents = ds } in
    λ ops.
    c.in_ok-showing-2.ensures.live
    ∙ ap (λ (is : List Id). filter is_live (changed_live (is_among is) (new (arc_value c.in_ok-block-2.block).documents) before.live)) c.deref-3.ensures.value
    ∙ ap (λ (ds : Documents). filter is_live (changed_live (is_among ids) (new ds) before.live)) made
    ∙ ap (λ (ds : Documents). filter is_live (changed_live (is_among ids) (new ds) before.live)) (are-where (operations inside.history.records) ids es c.in_ok-entries.ensures.sorted at (is_written v) are)
    ∙ ap (λ (ls : List Documents). filter is_live ls) (changed_live-same (is_among ids) (is_written v) are (next_segment v) before.live)
    ∙ ap (λ (e : EngineData). filter is_live (changed_live (is_written e) (next_segment e) e.live)) c.self.view_is

-- none is dead
pub returns-clause-live : goal.returns-clause-live
returns-clause-live c =
    let before = c.self.inside.showing in
    let new : Published = record { number = before.next; mapping = before.snapshot.mapping; documents = (arc_value c.in_ok-block-2.block).documents } in
    passing-live c.in_ok-showing-2.showing.live (changed_live (is_among c.deref-3.result.now) new before.live) c.in_ok-showing-2.ensures.live

-- where more than ids changed one comes, and all others go
pub returns-in_default-clause-numbers : goal.returns-in_default-clause-numbers
returns-in_default-clause-numbers c =
    let before = c.self.inside.showing in
    let made = c.in_ok-showing.ensures in
    subst (λ (e : EngineData). IsFronted e.next e.published c.in_ok-showing.showing.published) c.self.view_is
    (fronted-alone before.next before.published c.in_ok-showing.showing.published _ (ap (λ (s : ShowingData). s.published) made) c.next-next.ensures.is)

pub returns-in_default-clause-live : goal.returns-in_default-clause-live
returns-in_default-clause-live c = subst AreLive (sym (ap (λ (s : ShowingData). s.live) c.in_ok-showing.ensures)) (λ many. absurd (omega (arith, many)))

pub returns-in_default-clause-published : goal.returns-in_default-clause-published
returns-in_default-clause-published c =
    λ ops. absurd (c.in_ok-ids.ensures.only (subst OnlyOps (sym c.self.view_is) ops) c.in_default.is)

pub returns-in_default-clause-kept : goal.returns-in_default-clause-kept
returns-in_default-clause-kept c =
    λ ops. absurd (c.in_ok-ids.ensures.only (subst OnlyOps (sym c.self.view_is) ops) c.in_default.is)
