use Rattle.std.specs.List.{AllWithin}
use Rattle.cluster.specs.Confirmed.{IsBehind}
use Rattle.cluster.proofs.checks.are_behind.Given as goal

-- the others so far are behind the first
abbrev pub invariant-loop-other : goal.invariant-loop-other
invariant-loop-other g l = AllWithin (IsBehind l.first) l.others 0 l.other-index
