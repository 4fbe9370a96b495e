use Rattle.std.proofs.Common.{◌<◌, ◌∙◌, List, ◌∷◌, ap, sym, arith, map, filter, length}
use Rattle.std.specs.Arc.{arc_value}
use Rattle.std.proofs.lemmas.Result.{IfOk-weaker}
use Rattle.op.specs.Documents.{Documents}
use Rattle.engine.specs.Live.{changed_live, is_live, living}
use Rattle.engine.specs.Parts.{PartData, PartListData, all_published, documents_of_parts, is_among, merged, published_of, without, woven}
use Rattle.engine.specs.Published.{Published}
use Rattle.engine.proofs.SnapshotLaws.{front-parts, front-woven}
use Rattle.engine.proofs.ApartLaws.{merged-none}
use Rattle.engine.proofs.read.part_list.PartList.with.Goals as goal

-- the new part stands in front of the others
pub living-requires : goal.living-requires
living-requires c =
    let m = arc_value c.self.inside.mapping in
    let ps = c.self.inside.parts.items in
    let qs = c.in_ok-parts.parts.items in
    let es = (arc_value c.args.block).documents in
    let mappings = rw c.deref.ensures.value at c.in_ok-parts.ensures.mappings in
    let left = rw c.deref.ensures.value at c.in_ok-parts.ensures.documents in
    let is = ap (λ (p : PartData). p.documents) c.in_ok-part.ensures ∙ sym (merged-none es (rw c.deref-2.ensures at c.len-sorted.ensures.sorted)) in
    let under = ap (λ (p : PartData). p.mapping) c.in_ok-part.ensures ∙ c.requires.under ∙ ap (λ (l : PartListData). l.mapping) (sym c.self.view_is) in
    let fits : length qs < 4294967295 = omega (arith, c.len.ensures, c.if-len-ge-MOST_PARTS.false) in
    rw (c.deref-3.ensures.value, c.in_ok-insert.ensures.items)
    (front-parts m ps qs c.args.ids.now es 0 c.self.invariant mappings left c.requires.only c.in_ok-part.part under is fits)

-- it shows the new documents, and the others as they were
pub returns-clause-documents : goal.returns-clause-documents
returns-clause-documents c =
    let m = arc_value c.self.inside.mapping in
    let ps = c.self.inside.parts.items in
    let qs = c.in_ok-parts.parts.items in
    let es = (arc_value c.args.block).documents in
    let mappings = rw c.deref.ensures.value at c.in_ok-parts.ensures.mappings in
    let left = rw c.deref.ensures.value at c.in_ok-parts.ensures.documents in
    let is = ap (λ (p : PartData). p.documents) c.in_ok-part.ensures ∙ sym (merged-none es (rw c.deref-2.ensures at c.len-sorted.ensures.sorted)) in
    let all = ap (λ (xs : List PartData). woven (documents_of_parts xs)) (c.deref-3.ensures.value ∙ c.in_ok-insert.ensures.items)
    ∙ front-woven m ps qs c.args.ids.now es 0 c.self.invariant mappings left c.requires.only c.in_ok-part.part is
    ∙ ap (λ (l : PartListData). merged es (without c.args.ids.now l.documents)) c.self.view_is in
    IfOk-weaker c.living.result _ _ (λ l made. made ∙ all) c.living.ensures.documents

pub returns-clause-published : goal.returns-clause-published
returns-clause-published c =
    let ids = c.args.ids.now in
    let ps = c.self.inside.parts.items in
    let qs = c.in_ok-parts.parts.items in
    let es = (arc_value c.args.block).documents in
    let left = rw c.deref.ensures.value at c.in_ok-parts.ensures.documents in
    let new : Published = record { number = c.args.number; mapping = (arc_value c.args.block).mapping; documents = es } in
    let all = ap (λ (xs : List PartData). living (all_published xs) (documents_of_parts xs)) (c.deref-3.ensures.value ∙ c.in_ok-insert.ensures.items)
    ∙ ap (λ (p : PartData). living (published_of p ∷ all_published qs) (p.documents ∷ documents_of_parts qs)) c.in_ok-part.ensures
    ∙ ap (λ (ss : List Published). living (new ∷ ss) (es ∷ documents_of_parts qs)) (c.in_ok-parts.ensures.published ∙ ap all_published c.deref.ensures.value)
    ∙ ap (λ (ls : List Documents). living (new ∷ all_published ps) (es ∷ ls)) left
    ∙ ap (λ m. living ((record { number = c.args.number; mapping = m; documents = es }) ∷ all_published ps) (es ∷ map (without ids) (documents_of_parts ps))) c.requires.under
    ∙ ap (λ (l : PartListData). living ((record { number = c.args.number; mapping = c.args.self.now.mapping; documents = es }) ∷ l.published) (es ∷ map (without ids) l.live)) c.self.view_is in
    IfOk-weaker c.living.result _ _ (λ l made. made ∙ all) c.living.ensures.published

pub returns-clause-live : goal.returns-clause-live
returns-clause-live c =
    let ids = c.args.ids.now in
    let qs = c.in_ok-parts.parts.items in
    let es = (arc_value c.args.block).documents in
    let left = rw c.deref.ensures.value at c.in_ok-parts.ensures.documents in
    let all = ap (λ (xs : List PartData). filter is_live (documents_of_parts xs)) (c.deref-3.ensures.value ∙ c.in_ok-insert.ensures.items)
    ∙ ap (λ (p : PartData). filter is_live (p.documents ∷ documents_of_parts qs)) c.in_ok-part.ensures
    ∙ ap (λ (ls : List Documents). filter is_live (es ∷ ls)) left
    ∙ ap (λ (l : PartListData). filter is_live (changed_live (is_among ids) (record { number = c.args.number; mapping = c.args.self.now.mapping; documents = es }) l.live)) c.self.view_is in
    IfOk-weaker c.living.result _ _ (λ l made. made ∙ all) c.living.ensures.live
