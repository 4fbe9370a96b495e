use Rattle.std.proofs.Common.{◌≡◌, ◌∙◌, refl, sym, subst, arith, length, map, List, Bool, Option}
use Rattle.std.specs.Prelude.{IfSome}
use Rattle.doc.specs.Document.{all_values}
use Rattle.segment.specs.Woven.{masked, IsPlaced}
use Rattle.segment.proofs.AddedLaws.{makings-long}
use Rattle.segment.proofs.WovenLaws.{placed-all, placed-below, placed-long}
use Rattle.segment.proofs.WeavingLaws.{strand-covered, strand-more}
use Rattle.segment.proofs.weaving.add_strand.Goals as goal

pub weave_columns-requires-clause-few : goal.weave_columns-requires-clause-few
weave_columns-requires-clause-few c =
    let zs = c.args.sources.now in
    let ts = c.args.taken.now in
    let ds = c.args.segment.now.sources in
    let to = c.args.to.now in
    let are : IsPlaced 0 zs ts c.in-Some.mine ds to = rw c.sources.ensures at (subst (λ (o : Option (List Bool)). IfSome o (λ ms. IsPlaced 0 zs ts ms c.sources.result.now to)) c.in-Some.is c.in_ok-mine.ensures) in
    omega (arith, c.columns.ensures.few, placed-all 0 zs ts c.in-Some.mine ds to are)

pub weave_columns-requires-clause-within : goal.weave_columns-requires-clause-within
weave_columns-requires-clause-within c =
    let zs = c.args.sources.now in
    let ts = c.args.taken.now in
    let ds = c.args.segment.now.sources in
    let to = c.args.to.now in
    let are : IsPlaced 0 zs ts c.in-Some.mine ds to = rw c.sources.ensures at (subst (λ (o : Option (List Bool)). IfSome o (λ ms. IsPlaced 0 zs ts ms c.sources.result.now to)) c.in-Some.is c.in_ok-mine.ensures) in
    placed-below zs ts c.in-Some.mine ds to are

pub weave_columns-requires-clause-covered : goal.weave_columns-requires-clause-covered
weave_columns-requires-clause-covered c =
    let zs = c.args.sources.now in
    let ts = c.args.taken.now in
    let ds = c.args.segment.now.sources in
    let to = c.args.to.now in
    let are : IsPlaced 0 zs ts c.in-Some.mine ds to = rw c.sources.ensures at (subst (λ (o : Option (List Bool)). IfSome o (λ ms. IsPlaced 0 zs ts ms c.sources.result.now to)) c.in-Some.is c.in_ok-mine.ensures) in
    strand-covered zs ds ts c.in-Some.mine to c.args.segment.now.mapping c.columns.result.now are c.columns.ensures

pub weave_columns-requires-clause-long : goal.weave_columns-requires-clause-long
weave_columns-requires-clause-long c =
    let m = c.args.mapping.now in
    let zs = c.args.sources.now in
    makings-long m.fields (masked c.args.taken.now (map (all_values m) zs)) (length zs) c.args.makings.now c.requires.so_far.columns

pub unite-requires : goal.unite-requires
unite-requires c =
    let zs = c.args.sources.now in
    let ts = c.args.taken.now in
    let ds = c.args.segment.now.sources in
    let to = c.args.to.now in
    let are : IsPlaced 0 zs ts c.in-Some.mine ds to = rw c.sources.ensures at (subst (λ (o : Option (List Bool)). IfSome o (λ ms. IsPlaced 0 zs ts ms c.sources.result.now to)) c.in-Some.is c.in_ok-mine.ensures) in
    let long = placed-long 0 zs ts c.in-Some.mine ds to are in
    long.1 ∙ sym long.0

-- the strand's documents are there, too
pub returns : goal.returns
returns c =
    let m = c.args.mapping.now in
    let zs = c.args.sources.now in
    let ts = c.args.taken.now in
    let ds = c.args.segment.now.sources in
    let to = c.args.to.now in
    let are : IsPlaced 0 zs ts c.in-Some.mine ds to = rw c.sources.ensures at (subst (λ (o : Option (List Bool)). IfSome o (λ ms. IsPlaced 0 zs ts ms c.sources.result.now to)) c.in-Some.is c.in_ok-mine.ensures) in
    let same : c.args.segment.now.mapping ≡ m = sym c.mapping.ensures ∙ c.if-not-is.ensures.0 refl in
    λ _. strand-more m zs ds ts c.unite.new.self c.in-Some.mine to (length zs) c.args.segment.now.mapping c.columns.result.now c.args.makings.now c.weave_columns.new.makings same refl c.requires.so_far are c.columns.ensures c.in_ok-weave_columns.ensures c.unite.ensures
