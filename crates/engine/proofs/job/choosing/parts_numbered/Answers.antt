use Rattle.std.proofs.Common.{◌∙◌, ap}
use Rattle.std.specs.Prelude.{◌==◌}
use Rattle.std.specs.List.{list_any}
use Rattle.engine.proofs.ChoosingLaws.{is_chosen}
use Rattle.engine.proofs.LivingLaws.{filter-more}
use Rattle.engine.proofs.job.choosing.parts_numbered.Goals as goal

-- one part more
pub loop-part-preserved : goal.loop-part-preserved
loop-part-preserved c =
    filter-more (is_chosen c.args.numbers.now) c.args.parts.now c.loop-part.part-index c.part-item.result _ _ _ c.loop-part-test.true c.part-item.is
    (c.is_one_of.ensures ∙ ap (λ k. list_any (λ n. n == k) c.args.numbers.now) c.number.ensures) c.in_ok-push_if.ensures c.loop-part.invariant
