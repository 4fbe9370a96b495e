use Rattle.std.proofs.Common.{List, arith, subst}
use Rattle.std.proofs.lemmas.List.{take_all}
use Rattle.engine.specs.Parts.{PartData}
use Rattle.engine.proofs.ChoosingLaws.{IsChoice, choice-long, choice-more}
use Rattle.engine.proofs.job.choosing.numbers_within.Goals as goal

-- one part more
pub loop-part-preserved : goal.loop-part-preserved
loop-part-preserved c =
    choice-more c.args.most c.args.parts.now c.loop-part.part-index c.part-item.result _ _ c.requires c.loop-part-test.true c.part-item.is c.in_ok-push_within.ensures.few c.in_ok-push_within.ensures.pushed c.loop-part.invariant

-- what is chosen of all parts
pub returns-clause-are : goal.returns-clause-are
returns-clause-are c =
    let ps = c.args.parts.now in
    let all : IsChoice c.args.most ps c.loop-part.numbers.items =
    subst (λ (qs : List PartData). IsChoice c.args.most qs c.loop-part.numbers.items) (take_all c.loop-part.part-index ps (omega arith)) c.loop-part.invariant in
    all.are

pub returns-clause-same : goal.returns-clause-same
returns-clause-same c =
    let ps = c.args.parts.now in
    let all : IsChoice c.args.most ps c.loop-part.numbers.items =
    subst (λ (qs : List PartData). IsChoice c.args.most qs c.loop-part.numbers.items) (take_all c.loop-part.part-index ps (omega arith)) c.loop-part.invariant in
    choice-long c.args.most ps c.loop-part.numbers.items all

pub returns-clause-all : goal.returns-clause-all
returns-clause-all c =
    let ps = c.args.parts.now in
    let all : IsChoice c.args.most ps c.loop-part.numbers.items =
    subst (λ (qs : List PartData). IsChoice c.args.most qs c.loop-part.numbers.items) (take_all c.loop-part.part-index ps (omega arith)) c.loop-part.invariant in
    all.all
