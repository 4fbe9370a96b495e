use Rattle.std.proofs.Common.{◌<◌, ◌∙◌, ap, arith, length, take, filter}
use Rattle.std.proofs.lemmas.List.Elements.{All-take}
use Rattle.std.specs.Arc.{arc_value}
use Rattle.query.specs.View.{query_view}
use denote.Ref.{Bor}
use Rattle.engine.specs.Answer.{is_found}
use Rattle.engine.specs.Shown.{shown_view}
use Rattle.engine.specs.declared.read.block.Shown.{Shown}
use Rattle.engine.proofs.ShareLaws.{share-total, share-few, share-within, share-first}
use Rattle.engine.proofs.read.part.Part.chosen_hits.Goals as goal
use Rattle.engine.specs.Parts.{PartData}

-- the marks are those of the block
pub find_places-requires-clause-whole : goal.find_places-requires-clause-whole
find_places-requires-clause-whole c = rw (c.deref-2.ensures, c.deref-3.ensures) c.self.invariant.whole

pub find_places-requires-clause-full : goal.find_places-requires-clause-full
find_places-requires-clause-full c = rw (c.deref-2.ensures, c.deref-3.ensures) c.self.invariant.full

-- the places are those of documents
pub shown_at-requires : goal.shown_at-requires
shown_at-requires c =
    let block = arc_value c.self.inside.block in
    let g = is_found block.mapping (query_view c.args.query.now) in
    let found = rw (c.deref-2.ensures, c.deref-3.ensures) at c.in_ok-found.ensures.first in
    rw (c.deref-5.ensures.value, c.deref-4.ensures, found)
    (All-take (λ p. p < length block.documents) c.args.wanted _ (share-within g block.documents (arc_value c.self.inside.live) c.self.invariant.whole))

pub returns-clause-total : goal.returns-clause-total
returns-clause-total c =
    let block = arc_value c.self.inside.block in
    let q = query_view c.args.query.now in
    let found = rw (c.deref-2.ensures, c.deref-3.ensures) at c.in_ok-found.ensures.total in
    found
    ∙ share-total (is_found block.mapping q) block.documents (arc_value c.self.inside.live) c.self.invariant.whole
    ∙ ap (λ (s : PartData). length (filter (is_found s.mapping q) s.documents)) c.self.view_is

pub returns-clause-few : goal.returns-clause-few
returns-clause-few c =
    let block = arc_value c.self.inside.block in
    let g = is_found block.mapping (query_view c.args.query.now) in
    let found = rw (c.deref-2.ensures, c.deref-3.ensures) at c.in_ok-found.ensures.total in
    let len = rw c.deref.ensures at c.len-few.ensures.is in
    omega (arith, found, len, c.len-few.ensures.few, share-few g block.documents (arc_value c.self.inside.live) c.self.invariant.whole)

pub returns-clause-first : goal.returns-clause-first
returns-clause-first c =
    let block = arc_value c.self.inside.block in
    let q = query_view c.args.query.now in
    let found = rw (c.deref-2.ensures, c.deref-3.ensures) at c.in_ok-found.ensures.first in
    share-first (is_found block.mapping q) block.documents (arc_value c.self.inside.live) c.self.invariant.whole (λ (r : Bor Shown). shown_view r.now) c.args.wanted c.in_ok-first.first.items
    (rw (c.deref-5.ensures.value, c.deref-4.ensures, found) at c.in_ok-first.ensures)
    ∙ ap (λ (s : PartData). take c.args.wanted (filter (is_found s.mapping q) s.documents)) c.self.view_is
