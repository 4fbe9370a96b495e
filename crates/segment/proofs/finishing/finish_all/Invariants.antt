use Rattle.std.proofs.Common.{length}
use Rattle.segment.specs.Added.{HaveFewPlaces}
use Rattle.segment.specs.Posted.{IsFinished}
use Rattle.segment.proofs.FinishLaws.{AreEither}
use Rattle.segment.proofs.finishing.finish_all.Given as goal

-- each column waits or is finished
abbrev pub invariant-loop-name : goal.invariant-loop-name
invariant-loop-name l = record {
  either : AreEither (IsFinished l.len) l.fn.makings l.left l.columns;
  few : HaveFewPlaces l.len l.left;
}

-- one column fewer waits
abbrev pub decreases-loop-name : goal.decreases-loop-name
decreases-loop-name l = length l.left.entries
