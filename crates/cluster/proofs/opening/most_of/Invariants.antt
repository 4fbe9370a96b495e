use Rattle.std.proofs.Common.{◌≡◌, drop}
use Rattle.std.specs.Prelude.{max}
use Rattle.cluster.specs.Opening.{most_of}
use Rattle.cluster.proofs.opening.most_of.Given as goal

-- the greatest so far, and those that are left
abbrev pub invariant-loop-one : goal.invariant-loop-one
invariant-loop-one l = max l.most (most_of (drop l.one-index l.opened)) ≡ most_of l.opened
