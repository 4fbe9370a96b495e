use Rattle.audit.proofs.Overruling.{overruled}
use Rattle.audit.proofs.ruler.judge_rulings.Goals as goal

pub returns-in-Err-clause-err : goal.returns-in-Err-clause-err
returns-in-Err-clause-err c =
    overruled c.args.ruler.now c.loop-place.ruler c.loop-place.place c.args.rulings.now c.index-rulings-place.result c.loop-place.items.items c.in-Err.wrong c.loop-place-test.true c.index-rulings-place.is
    c.loop-place.invariant c.in-Err.ensures.err
