use Rattle.std.proofs.Common.{◌<◌, ◌∙◌, ◌+◌, ◌++◌, ◌∷◌, [], ap, sym, arith, filter, take, length, Vec, Global}
use denote.Ref.{Bor}
use Rattle.std.proofs.lemmas.List.{length-map, map-append, map_more}
use Rattle.doc.specs.Mapping.{MappingData}
use Rattle.query.specs.View.{query_view}
use Rattle.op.specs.Documents.{Documents}
use Rattle.engine.specs.Answer.{is_found}
use Rattle.engine.specs.Before.{first_of_each}
use Rattle.engine.specs.Parts.{PartData, documents_of_parts, woven}
use Rattle.engine.specs.Shown.{seen, seen_all}
use Rattle.engine.specs.declared.read.block.Shown.{Shown}
use Rattle.engine.proofs.ApartLaws.{counted-more}
use Rattle.engine.proofs.SnapshotLaws.{mapping-at, documents-at}
use Rattle.engine.proofs.read.part_list.hits_of_parts.Goals as goal

-- one part more
pub loop-part-preserved : goal.loop-part-preserved
loop-part-preserved c =
    let q = query_view c.args.query.now in
    let g = is_found c.args._mapping.now q in
    let ps = documents_of_parts c.args.parts.now in
    let i = c.loop-part.part-index in
    let p = c.part-item.result in
    let n = c.args.wanted in
    let so_far = filter g (woven (take i ps)) in
    let lt : i < length ps = omega (arith, c.loop-part-test.true, length-map c.args.parts.now (λ (p : PartData). p.documents)) in
    let at = documents-at c.args.parts.now i p c.loop-part-test.true c.part-item.is in
    let under = mapping-at c.args._mapping.now c.args.parts.now i p c.requires.mappings c.loop-part-test.true c.part-item.is in
    let total = c.in_ok-hits.ensures.total ∙ ap (λ (m : MappingData). length (filter (is_found m q) p.documents)) under ∙ ap (λ (ds : Documents). length (filter g ds)) (sym at) in
    let first = c.in_ok-hits.ensures.first ∙ ap (λ (m : MappingData). take n (filter (is_found m q) p.documents)) under ∙ ap (λ (ds : Documents). take n (filter g ds)) (sym at) in
    let test = λ (ds : Documents). take n (filter g ds) in
    record {
      total = ap (λ k. k + c.in_ok-hits.hits.total) c.loop-part.invariant.total ∙ ap (λ k. length so_far + k) total ∙ sym (counted-more g ps i p.documents c.requires.apart lt);
      few = omega (arith, c.loop-part.invariant.few, c.in_ok-hits.ensures.few);
      lists = ap seen_all c.in_ok-push.ensures.items ∙ map-append (λ (v : Vec (Bor Shown) Global). seen v.items) c.loop-part.lists.items (c.in_ok-hits.hits.first ∷ [])
          ∙ ap (λ ds. ds ++ seen c.in_ok-hits.hits.first.items ∷ []) c.loop-part.invariant.lists ∙ ap (λ (d : Documents). first_of_each n g (take i ps) ++ d ∷ []) first
          ∙ sym (map_more test ps i p.documents lt);
    }
