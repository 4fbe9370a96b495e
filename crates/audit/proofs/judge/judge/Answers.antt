use Rattle.audit.proofs.Judging.{misjudged}
use Rattle.audit.proofs.judge.judge.Goals as goal

pub returns-in-Err-clause-err : goal.returns-in-Err-clause-err
returns-in-Err-clause-err g c =
    misjudged (g.F.Follower.standing c.args.follower.now) (g.F.Follower.standing c.loop-place.follower) c.loop-place.place c.args.deeds.now c.index-deeds-place.result c.loop-place.items.items c.in-Err.wrong c.loop-place-test.true c.index-deeds-place.is
    c.loop-place.invariant c.in-Err.ensures.err
