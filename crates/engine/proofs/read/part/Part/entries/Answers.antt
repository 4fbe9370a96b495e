use Rattle.std.proofs.Common.{◌∙◌, ap, Bool, List}
use Rattle.marks.specs.Lists.{places}
use Rattle.std.specs.Arc.{arc_value}
use Rattle.engine.specs.Entry.{entry_view}
use Rattle.engine.proofs.ShareLaws.{live-within, live-all}
use Rattle.engine.proofs.read.part.Part.entries.Goals as goal
use Rattle.engine.specs.Parts.{PartData}

pub entries_at-requires : goal.entries_at-requires
entries_at-requires c =
    let docs = (arc_value c.self.inside.block).documents in
    rw (c.deref-4.ensures.value, (c.in_ok-live.ensures ∙ ap (λ (m : List Bool). places (λ (b : Bool). b) m) c.deref-2.ensures), c.deref-3.ensures) (live-within docs (arc_value c.self.inside.live) c.self.invariant.whole)

-- the live documents
pub returns : goal.returns
returns c =
    let docs = (arc_value c.self.inside.block).documents in
    live-all entry_view docs (arc_value c.self.inside.live) c.self.invariant.whole c.in_ok-entries.entries.items
    (rw (c.deref-3.ensures, c.deref-4.ensures.value, (c.in_ok-live.ensures ∙ ap (λ (m : List Bool). places (λ (b : Bool). b) m) c.deref-2.ensures)) at c.in_ok-entries.ensures)
    ∙ ap (λ (s : PartData). s.documents) c.self.view_is
