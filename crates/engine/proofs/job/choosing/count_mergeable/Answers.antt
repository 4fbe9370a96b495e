use Rattle.std.proofs.Common.{◌+◌, ◌∙◌, ap, sym, arith, cond, take}
use Rattle.engine.proofs.ChoosingLaws.{mergeables, mergeables-more}
use Rattle.engine.proofs.job.choosing.count_mergeable.Goals as goal
use Rattle.engine.proofs.job.choosing.count_mergeable.Goals.{then-is_mergeable, else-is_mergeable}

-- one part more
pub loop-part-preserved : goal.loop-part-preserved
loop-part-preserved c =
    let more = mergeables-more c.args.parts.now c.loop-part.part-index c.part-item.result c.loop-part-test.true c.part-item.is in
    let so_far = c.loop-part.invariant in
    elim c.if-is_mergeable.branch [
      | then-is_mergeable w ↦ let is = ap (λ b. mergeables (take c.loop-part.part-index c.args.parts.now) + cond b 1 0) (sym c.is_mergeable.ensures ∙ w.if-is_mergeable.true) in (omega (arith, w.count-is, more ∙ is, so_far.0), omega (arith, w.count-is, so_far.1))
      | else-is_mergeable w ↦ let is = ap (λ b. mergeables (take c.loop-part.part-index c.args.parts.now) + cond b 1 0) (sym c.is_mergeable.ensures ∙ w.if-is_mergeable.false) in (omega (arith, w.count-is, more ∙ is, so_far.0), omega (arith, w.count-is, so_far.1))
    ]
