use Rattle.std.proofs.Common.{◌≡◌, ◌∙◌, ap, sym, arith, filter, List}
use Rattle.doc.specs.Id.{Id}
use Rattle.op.specs.Documents.{Documents}
use Rattle.engine.specs.Parts.{PartData, all_published, documents_of_parts, is_living, without}
use Rattle.engine.proofs.LeftLaws.{left-among, left-documents}
use Rattle.engine.proofs.job.swapping.left_of.Goals as goal

pub are_left-requires-clause-left : goal.are_left-requires-clause-left
are_left-requires-clause-left c =
    rw (c.deref-4.ensures.value, c.in_ok-left.ensures, c.deref-3.ensures.value) (left-among (all_published c.args.taken.now) c.in_ok-without.without.items c.in_ok-without.ensures.published)

-- what died in those that were taken isn't in it
pub returns : goal.returns
returns c =
    let made = c.args.made.now in
    let shows : documents_of_parts c.deref-4.result.now ≡ documents_of_parts c.args.parts.now = c.in_ok-are_left.ensures (grind (arith, c.if-not-branch.false)) in
    let same : documents_of_parts (filter is_living c.in_ok-without.without.items) ≡ documents_of_parts c.args.parts.now =
    ap (λ (ps : List PartData). documents_of_parts (filter is_living ps)) (sym c.deref-3.ensures.value) ∙ ap documents_of_parts (sym c.in_ok-left.ensures ∙ sym c.deref-4.ensures.value) ∙ shows in
    let left = left-documents c.deref-2.result.now c.args.taken.now c.in_ok-without.without.items c.args.parts.now made.documents c.requires.taken c.requires.made c.in_ok-without.ensures.documents same in
    c.in_ok-part.ensures
    ∙ ap (λ (ds : Documents). let p : PartData = record made { documents = ds } in p) (ap (λ (ids : List Id). without ids made.documents) (c.deref-5.ensures.value ∙ sym c.deref-2.ensures.value) ∙ left)
