use Rattle.engine.specs.Lessened.{all_before}
use Rattle.engine.proofs.SwapLaws.{told-at}
use Rattle.engine.proofs.job.lessened.parts_left.Goals as goal

-- it is told by its number where all are
pub part_left-requires-clause-told : goal.part_left-requires-clause-told
part_left-requires-clause-told c = told-at (all_before c.args.made.now) c.args.parts.now c.loop-part.part-index c.part-item.result c.loop-part-test.true c.part-item.is c.requires.told
