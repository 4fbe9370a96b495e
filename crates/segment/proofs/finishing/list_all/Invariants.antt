use Rattle.std.proofs.Common.{length}
use Rattle.segment.specs.Joined.{IsPut}
use Rattle.segment.proofs.FinishLaws.{AreEither}
use Rattle.segment.proofs.finishing.list_all.Given as goal

-- each column waits or is listed
abbrev pub invariant-loop-name : goal.invariant-loop-name
invariant-loop-name l = AreEither IsPut l.fn.makings l.left l.listed

-- one column fewer waits
abbrev pub decreases-loop-name : goal.decreases-loop-name
decreases-loop-name l = length l.left.entries
