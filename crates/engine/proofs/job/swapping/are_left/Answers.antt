use Rattle.std.proofs.Common.{◌<◌, sym, subst, arith, length, Contains}
use Rattle.engine.specs.Parts.{PartData, all_published, published_of}
use Rattle.engine.proofs.job.swapping.are_left.Goals as goal

pub is_left-requires-clause-left : goal.is_left-requires-clause-left
is_left-requires-clause-left c =
    subst (λ (p : PartData). Contains (all_published c.args.taken.now) (published_of p)) (sym c.index-left-at.is) (c.requires.left c.loop-at.at c.index-left-at.result c.loop-at-test.true)

pub is_left-requires-clause-part : goal.is_left-requires-clause-part
is_left-requires-clause-part c =
    let within : c.loop-at.at < length c.args.parts.now = omega (arith, c.loop-at-test.true, c.if-left-parts.false) in
    subst (λ (p : PartData). Contains (all_published c.args.taken.now) (published_of p)) (sym c.index-parts-at.is) (c.requires.parts c.loop-at.at c.index-parts-at.result within)
