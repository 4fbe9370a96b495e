use Rattle.std.proofs.Common.{◌≡◌, ◌<◌, ◌∙◌, true, ap, sym, subst, arith, map, take, length, []}
use Rattle.std.specs.FinMap.Entries.{is_sorted}
use Rattle.std.proofs.lemmas.List.{length-map}
use Rattle.std.proofs.lemmas.List.Sums.{fold_more}
use Rattle.doc.specs.Id.{id_cmp}
use Rattle.op.specs.Documents.{Documents}
use Rattle.engine.specs.Entry.{entry_view}
use Rattle.engine.specs.Parts.{PartData, documents_of_parts, woven, merged}
use Rattle.engine.proofs.PartLaws.{T_true}
use Rattle.engine.proofs.ApartLaws.{in_order-woven, all_take, all_at}
use Rattle.engine.proofs.SnapshotLaws.{documents-at}
use Rattle.engine.proofs.read.part_list.entries_of_parts.Goals as goal

pub merge-requires-clause-left : goal.merge-requires-clause-left
merge-requires-clause-left c =
    let ps = documents_of_parts c.args.parts.now in
    let i = c.loop-part.part-index in
    subst (λ (ds : Documents). is_sorted id_cmp ds ≡ true) (sym (ap (map entry_view) c.deref.ensures.value ∙ c.loop-part.invariant)) (T_true _ (in_order-woven (take i ps) (all_take i ps c.requires)))

pub merge-requires-clause-right : goal.merge-requires-clause-right
merge-requires-clause-right c =
    let ps = documents_of_parts c.args.parts.now in
    let i = c.loop-part.part-index in
    let p = c.part-item.result in
    let lt : i < length ps = omega (arith, c.loop-part-test.true, length-map c.args.parts.now (λ (p : PartData). p.documents)) in
    let at = documents-at c.args.parts.now i p c.loop-part-test.true c.part-item.is in
    subst (λ (ds : Documents). is_sorted id_cmp ds ≡ true) (at ∙ sym (ap (map entry_view) c.deref-in-loop-part.ensures.value ∙ c.in_ok-more.ensures)) (T_true _ (all_at ps i p.documents c.requires lt))

-- one part more
pub loop-part-preserved : goal.loop-part-preserved
loop-part-preserved c =
    let ps = documents_of_parts c.args.parts.now in
    let i = c.loop-part.part-index in
    let p = c.part-item.result in
    let lt : i < length ps = omega (arith, c.loop-part-test.true, length-map c.args.parts.now (λ (p : PartData). p.documents)) in
    let at = documents-at c.args.parts.now i p c.loop-part-test.true c.part-item.is in
    c.in_ok-entries.ensures
    ∙ ap (λ (ds : Documents). merged ds (map entry_view c.deref-in-loop-part.result.now)) (ap (map entry_view) c.deref.ensures.value ∙ c.loop-part.invariant)
    ∙ ap (merged (woven (take i ps))) (ap (map entry_view) c.deref-in-loop-part.ensures.value ∙ c.in_ok-more.ensures ∙ sym at)
    ∙ sym (fold_more merged [] ps i p.documents lt)
