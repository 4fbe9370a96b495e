use Rattle.std.proofs.Common.{◌≤◌, ◌-◌, length, IfSome}
use Rattle.engine.specs.Before.{IsPivot}
use Rattle.engine.specs.Shown.{seen_all}
use Rattle.engine.proofs.read.paging.pivot_in.Given as goal

-- what was found so far is a pivot
abbrev pub invariant-loop-low : goal.invariant-loop-low
invariant-loop-low l = record {
  order : l.low ≤ l.high;
  within : l.high ≤ length l.list;
  best : IfSome l.best (λ p. IsPivot (seen_all l.lists) l.from p);
}

abbrev pub decreases-loop-low : goal.decreases-loop-low
decreases-loop-low l = l.high - l.low
