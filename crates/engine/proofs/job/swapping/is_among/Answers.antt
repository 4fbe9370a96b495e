use Rattle.std.proofs.Common.{◌≡◌, true, false, List, sym, subst}
use Rattle.std.specs.Prelude.{Contains}
use Rattle.std.proofs.lemmas.List.{take_all}
use Rattle.engine.specs.Parts.{PartData, all_published, published_of}
use Rattle.engine.specs.Published.{Published}
use Rattle.engine.proofs.SwapLaws.{all-at, none-more}
use Rattle.engine.proofs.job.swapping.is_among.Goals as goal

no : false ≡ true → ⊥
no t = cc

-- it is told by its number, where all are
pub are_one-requires : goal.are_one-requires
are_one-requires c = λ by same.
    all-at (λ (t : Published). t.number ≡ c.args.part.now.number → t ≡ published_of c.args.part.now) c.args.all.now c.loop-other.other-index c.other-item.result c.loop-other-test.true c.other-item.is (c.requires by) same

-- one part more that isn't it
pub loop-other-preserved : goal.loop-other-preserved
loop-other-preserved c = none-more c.args.all.now c.loop-other.other-index c.other-item.result (published_of c.args.part.now) c.loop-other-test.true c.other-item.is c.loop-other.invariant (λ same. no (c.if-are_one.ensures.1 same))

pub returns-clause-no : goal.returns-clause-no
returns-clause-no c = λ f there. c.loop-other.invariant (subst (λ (ps : List PartData). Contains (all_published ps) (published_of c.args.part.now)) (sym (take_all c.loop-other.other-index c.args.all.now c.loop-other-test.false)) there)
