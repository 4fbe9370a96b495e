use Rattle.engine.proofs.LessenedLaws.{lessened-more}
use Rattle.engine.proofs.job.lessened.lessened_of.Goals as goal

-- one part more
pub loop-part-preserved : goal.loop-part-preserved
loop-part-preserved c =
    let more = lessened-more c.args.ids.now c.args.parts.now c.loop-part.part-index c.part-item.result _ c.loop-part.all.items _ c.loop-part-test.true c.part-item.is c.in_ok-before.ensures (rw (c.deref.ensures.value, c.in_ok-sought.ensures) at c.in_ok-after.ensures) c.in_ok-push.ensures.items
    c.loop-part.invariant.before c.loop-part.invariant.are in
    record { before = more.0; are = more.1 }
