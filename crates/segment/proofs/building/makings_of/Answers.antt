use Rattle.std.proofs.Common.{rules, ◌≡◌, ◌+◌, ◌∙◌, ◌++◌, ◌∷◌, [], ℕ, List, ap, sym, subst, take, map, arith, length}
use Rattle.std.proofs.lemmas.Grind.{common_steps}
use Rattle.std.proofs.lemmas.List.{map_more, length-map}
use Rattle.doc.specs.Document.{DocData, all_values}
use Rattle.segment.specs.Joined.{behind, AreMakings}
use Rattle.segment.proofs.AddedLaws.{makings-long, makings-more}
use Rattle.segment.proofs.JoinedLaws.{behind-more, length-behind, nothing-yet}
use Rattle.segment.proofs.building.makings_of.Goals as goal

pub loop-source-init : goal.loop-source-init
loop-source-init c = record {
  count = omega arith;
  so_far = nothing-yet c.args.mapping.now.fields c.args.begin c.args.len c.new-makings.result (λ w. search rules);
}

pub add_document-requires-clause-long : goal.add_document-requires-clause-long
add_document-requires-clause-long c =
    makings-long c.args.mapping.now.fields (behind c.args.begin (map (all_values c.args.mapping.now) (take c.loop-source.source-index c.args.sources.now))) c.args.len c.loop-source.makings c.loop-source.invariant.so_far

-- one document more
pub loop-source-preserved : goal.loop-source-preserved
loop-source-preserved c =
    let m = c.args.mapping.now in
    let ss = c.args.sources.now in
    let i = c.loop-source.source-index in
    let s = c.source-item.result in
    let vs = map (all_values m) (take i ss) in
    let before = behind c.args.begin vs in
    let more : behind c.args.begin (map (all_values m) (take (i + 1) ss)) ≡ before ++ all_values m s ∷ [] =
    ap (behind c.args.begin) (map_more (all_values m) ss i s c.loop-source-test.true ∙ ap (λ (x : List ℕ). vs ++ all_values m x ∷ []) (sym c.source-item.is)) ∙ behind-more c.args.begin vs (all_values m s ∷ []) in
    let few : length (take i ss) ≡ i = grind (arith, common_steps, c.loop-source-test.true) in
    let here : c.loop-source.at ≡ length before = c.loop-source.invariant.count ∙ ap (λ n. c.args.begin + n) (sym few ∙ sym (length-map (take i ss) (all_values m))) ∙ sym (length-behind c.args.begin vs) in
    let added = rw (c.fields.ensures, ap (λ (d : DocData). d.values) c.in_ok-doc.ensures) at c.in_ok-add_document.ensures in
    record {
      count = omega (arith, c.loop-source.invariant.count);
      so_far = subst (λ ds. AreMakings m.fields ds c.args.len c.add_document.new.makings) (sym more)
          (makings-more m.fields before c.args.len (all_values m s) c.loop-source.at c.loop-source.makings c.add_document.new.makings here c.loop-source.invariant.so_far added);
    }

-- all documents
pub returns : goal.returns
returns c =
    let m = c.args.mapping.now in
    let ss = c.args.sources.now in
    let all : take c.loop-source.source-index ss ≡ ss = grind (arith, common_steps, c.loop-source-test.false) in
    subst (λ (xs : List (List ℕ)). AreMakings m.fields (behind c.args.begin (map (all_values m) xs)) c.args.len c.loop-source.makings) all c.loop-source.invariant.so_far
