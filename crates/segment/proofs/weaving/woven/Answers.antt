use Rattle.std.proofs.Common.{rules, ◌≡◌, ◌∙◌, ap, sym, subst, arith, length, map, List}
use Rattle.std.proofs.lemmas.List.{length-map, length-replicate}
use Rattle.doc.specs.Document.{Values, all_values}
use Rattle.segment.specs.Joined.{AreMakings}
use Rattle.segment.specs.Woven.{masked}
use Rattle.segment.proofs.AddedLaws.{makings-few, makings-finished}
use Rattle.segment.proofs.WeavingLaws.{all-masked, none-woven}
use Rattle.segment.proofs.weaving.woven.Goals as goal

-- no strand yet
pub loop-strand-init : goal.loop-strand-init
loop-strand-init c =
    let m = c.args.mapping.now in
    let n = length c.args.sources.now in
    record {
      whole = ap length c.in_ok-taken.ensures ∙ length-replicate n _;
      columns = none-woven m.fields n n (map (all_values m) c.args.sources.now) c.in_ok-taken.taken c.new-makings.result c.in_ok-taken.ensures (λ w. search rules);
    }

pub finish_all-requires : goal.finish_all-requires
finish_all-requires c =
    let m = c.args.mapping.now in
    let zs = c.args.sources.now in
    let docs = map (all_values m) zs in
    let taken = c.loop-strand.taken in
    let all : masked taken docs ≡ docs = all-masked taken docs (c.loop-strand.invariant.whole ∙ sym (length-map zs (all_values m))) (omega (arith, c.loop-strand.invariant.whole, c.count.ensures, c.if-count-sources.false)) in
    makings-few m.fields docs (length zs) c.loop-strand.makings (sym (length-map zs (all_values m)))
    (subst (λ (ds : List Values). AreMakings m.fields ds (length zs) c.loop-strand.makings) all c.loop-strand.invariant.columns)

-- all documents
pub returns : goal.returns
returns c =
    let m = c.args.mapping.now in
    let zs = c.args.sources.now in
    let docs = map (all_values m) zs in
    let taken = c.loop-strand.taken in
    let all : masked taken docs ≡ docs = all-masked taken docs (c.loop-strand.invariant.whole ∙ sym (length-map zs (all_values m))) (omega (arith, c.loop-strand.invariant.whole, c.count.ensures, c.if-count-sources.false)) in
    makings-finished m.fields docs (length zs) c.loop-strand.makings c.in_ok-columns.columns (sym (length-map zs (all_values m)))
    (subst (λ (ds : List Values). AreMakings m.fields ds (length zs) c.loop-strand.makings) all c.loop-strand.invariant.columns) c.in_ok-columns.ensures
