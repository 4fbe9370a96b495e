use Rattle.std.proofs.Common.{◌<◌, ◌+◌, ◌∙◌, ap, arith, drop, length, take, filter}
use Rattle.std.proofs.lemmas.List.Elements.{All-drop, All-take}
use Rattle.std.specs.Arc.{arc_value}
use Rattle.query.specs.View.{query_view}
use Rattle.engine.specs.Answer.{is_found}
use Rattle.engine.specs.Entry.{entry_view}
use Rattle.engine.proofs.ShareLaws.{share-total, share-few, share-within, share-page}
use Rattle.engine.proofs.read.part.Part.find.Goals as goal
use Rattle.engine.specs.Parts.{PartData}

-- the marks are those of the block
pub find_places-requires-clause-whole : goal.find_places-requires-clause-whole
find_places-requires-clause-whole c = rw (c.deref-2.ensures, c.deref-3.ensures) c.self.invariant.whole

pub find_places-requires-clause-full : goal.find_places-requires-clause-full
find_places-requires-clause-full c = rw (c.deref-2.ensures, c.deref-3.ensures) c.self.invariant.full

-- the places are those of documents
pub entries_at-requires : goal.entries_at-requires
entries_at-requires c =
    let block = arc_value c.self.inside.block in
    let g = is_found block.mapping (query_view c.args.query.now) in
    let found = rw (c.deref-2.ensures, c.deref-3.ensures) at c.in_ok-found.ensures.first in
    rw (c.behind.ensures, c.deref-5.ensures.value, c.deref-4.ensures, found)
    (All-drop (λ p. p < length block.documents) c.args.from _ (All-take (λ p. p < length block.documents) (c.args.from + c.args.size) _ (share-within g block.documents (arc_value c.self.inside.live) c.self.invariant.whole)))

pub returns-clause-total : goal.returns-clause-total
returns-clause-total c =
    let block = arc_value c.self.inside.block in
    let q = query_view c.args.query.now in
    let found = rw (c.deref-2.ensures, c.deref-3.ensures) at c.in_ok-found.ensures.total in
    found
    ∙ share-total (is_found block.mapping q) block.documents (arc_value c.self.inside.live) c.self.invariant.whole
    ∙ ap (λ (s : PartData). length (filter (is_found s.mapping q) s.documents)) c.self.view_is

pub returns-clause-few : goal.returns-clause-few
returns-clause-few c =
    let block = arc_value c.self.inside.block in
    let g = is_found block.mapping (query_view c.args.query.now) in
    let found = rw (c.deref-2.ensures, c.deref-3.ensures) at c.in_ok-found.ensures.total in
    let len = rw c.deref.ensures at c.len-few.ensures.is in
    omega (arith, found, len, c.len-few.ensures.few, share-few g block.documents (arc_value c.self.inside.live) c.self.invariant.whole)

pub returns-clause-first : goal.returns-clause-first
returns-clause-first c =
    let block = arc_value c.self.inside.block in
    let q = query_view c.args.query.now in
    let found = rw (c.deref-2.ensures, c.deref-3.ensures) at c.in_ok-found.ensures.first in
    share-page (is_found block.mapping q) block.documents (arc_value c.self.inside.live) c.self.invariant.whole entry_view c.args.from c.args.size c.in_ok-first.first.items
    (rw (c.behind.ensures, c.deref-5.ensures.value, c.deref-4.ensures, found) at c.in_ok-first.ensures)
    ∙ ap (λ (s : PartData). take c.args.size (drop c.args.from (filter (is_found s.mapping q) s.documents))) c.self.view_is
