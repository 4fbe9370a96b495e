use Rattle.std.proofs.Common.{length}
use Rattle.segment.specs.Added.{AreLong}
use Rattle.segment.proofs.JoinedLaws.{AllWaitOrAreJoined}
use Rattle.segment.proofs.joining.join.Given as goal

-- each column waits or is joined
abbrev pub invariant-loop-name : goal.invariant-loop-name
invariant-loop-name l = record {
  either : AllWaitOrAreJoined l.fn.makings l.fn.later l.left l.makings;
  long : AreLong l.len l.makings;
  later : AreLong l.len l.left;
}

-- one column fewer waits
abbrev pub decreases-loop-name : goal.decreases-loop-name
decreases-loop-name l = length l.left.entries
