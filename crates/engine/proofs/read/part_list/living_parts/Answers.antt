use Rattle.std.proofs.Common.{ap}
use Rattle.std.specs.Prelude.{nat_lt}
use Rattle.engine.specs.Parts.{is_living}
use Rattle.engine.proofs.LivingLaws.{filter-more}
use Rattle.engine.proofs.read.part_list.living_parts.Goals as goal

-- one part more
pub loop-part-preserved : goal.loop-part-preserved
loop-part-preserved c =
    filter-more is_living c.args.parts.now c.loop-part.part-index c.part-item.result _ _ _ c.loop-part-test.true c.part-item.is
    (ap (λ n. nat_lt 0 n) c.live_len.ensures.is) c.in_ok-push_if.ensures c.loop-part.invariant
