use Rattle.std.proofs.Common.{◌≡◌}
use Rattle.engine.specs.Parts.{published_of}
use Rattle.engine.specs.Published.{Published}
use Rattle.engine.proofs.LessenedLaws.{before-at}
use Rattle.engine.proofs.job.lessened.made_of.Goals as goal

-- one of this number is the same segment
pub is_same-requires : goal.is_same-requires
is_same-requires c = λ same.
    before-at (λ (t : Published). t.number ≡ c.args.part.now.number → t ≡ published_of c.args.part.now) c.args.made.now c.loop-lessened.lessened-index c.lessened-item.result c.loop-lessened-test.true c.lessened-item.is c.requires.told same
