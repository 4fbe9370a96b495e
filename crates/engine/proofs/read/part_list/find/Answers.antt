use Rattle.std.proofs.Common.{◌≡◌, ◌<◌, ◌∙◌, ◌+◌, true, ap, sym, subst, arith, map, filter, take, length}
use Rattle.std.specs.FinMap.Entries.{is_sorted}
use Rattle.std.proofs.lemmas.List.{length-map, take-map}
use Rattle.doc.specs.Id.{id_cmp}
use Rattle.doc.specs.Mapping.{MappingData}
use Rattle.query.specs.View.{query_view}
use Rattle.op.specs.Documents.{Documents}
use Rattle.engine.specs.Answer.{is_found}
use Rattle.engine.specs.Entry.{entry_view}
use Rattle.engine.specs.Parts.{PartData, documents_of_parts, woven, merged}
use Rattle.engine.proofs.ApartLaws.{found-in_order, share-in_order, limited-more, counted-more}
use Rattle.engine.proofs.SnapshotLaws.{mapping-at, documents-at}
use Rattle.engine.proofs.read.part_list.find.Goals as goal

-- what was found so far is in order
pub merge_owned-requires-clause-left : goal.merge_owned-requires-clause-left
merge_owned-requires-clause-left c =
    let g = is_found c.args._mapping.now (query_view c.args.query.now) in
    let ps = documents_of_parts c.args.parts.now in
    let i = c.loop-part.part-index in
    let p = c.part-item.result in
    let lt : i < length ps = omega (arith, c.loop-part-test.true, length-map c.args.parts.now (λ (p : PartData). p.documents)) in
    subst (λ (ds : Documents). is_sorted id_cmp ds ≡ true) (sym c.loop-part.invariant.first) (found-in_order g ps i p.documents c.requires.apart lt c.args.wanted)

-- and what the part has
pub merge_owned-requires-clause-right : goal.merge_owned-requires-clause-right
merge_owned-requires-clause-right c =
    let q = query_view c.args.query.now in
    let g = is_found c.args._mapping.now q in
    let ps = documents_of_parts c.args.parts.now in
    let i = c.loop-part.part-index in
    let p = c.part-item.result in
    let lt : i < length ps = omega (arith, c.loop-part-test.true, length-map c.args.parts.now (λ (p : PartData). p.documents)) in
    let at = documents-at c.args.parts.now i p c.loop-part-test.true c.part-item.is in
    let under = mapping-at c.args._mapping.now c.args.parts.now i p c.requires.mappings c.loop-part-test.true c.part-item.is in
    let share = c.in_ok-share.ensures.first ∙ ap (λ (m : MappingData). take c.args.wanted (filter (is_found m q) p.documents)) under ∙ ap (λ (ds : Documents). take c.args.wanted (filter g ds)) (sym at) in
    subst (λ (ds : Documents). is_sorted id_cmp ds ≡ true) (sym share) (share-in_order g ps i p.documents c.requires.apart lt c.args.wanted)

pub overflow_add-total : goal.overflow_add-total
overflow_add-total c = omega (arith, c.loop-part.invariant.few, c.in_ok-share.ensures.few, c.loop-part-test.true, c.requires.few)

-- one part more
pub loop-part-preserved : goal.loop-part-preserved
loop-part-preserved c =
    let q = query_view c.args.query.now in
    let g = is_found c.args._mapping.now q in
    let ps = documents_of_parts c.args.parts.now in
    let i = c.loop-part.part-index in
    let p = c.part-item.result in
    let wanted = c.args.wanted in
    let so_far = filter g (woven (take i ps)) in
    let lt : i < length ps = omega (arith, c.loop-part-test.true, length-map c.args.parts.now (λ (p : PartData). p.documents)) in
    let at = documents-at c.args.parts.now i p c.loop-part-test.true c.part-item.is in
    let under = mapping-at c.args._mapping.now c.args.parts.now i p c.requires.mappings c.loop-part-test.true c.part-item.is in
    let total = c.in_ok-share.ensures.total ∙ ap (λ (m : MappingData). length (filter (is_found m q) p.documents)) under ∙ ap (λ (ds : Documents). length (filter g ds)) (sym at) in
    let share = c.in_ok-share.ensures.first ∙ ap (λ (m : MappingData). take wanted (filter (is_found m q) p.documents)) under ∙ ap (λ (ds : Documents). take wanted (filter g ds)) (sym at) in
    record {
      total = ap (λ n. n + c.in_ok-share.share.total) c.loop-part.invariant.total ∙ ap (λ n. length so_far + n) total ∙ sym (counted-more g ps i p.documents c.requires.apart lt);
      few = omega (arith, c.loop-part.invariant.few, c.in_ok-share.ensures.few);
      first = ap (map entry_view) c.truncate.ensures.items ∙ sym (take-map entry_view wanted c.in_ok-first.first.items)
          ∙ ap (take wanted) (c.in_ok-first.ensures ∙ ap (λ (ds : Documents). merged ds (map entry_view c.in_ok-share.share.first.items)) c.loop-part.invariant.first ∙ ap (merged (take wanted so_far)) share)
          ∙ limited-more g ps i p.documents c.requires.apart lt wanted;
    }
