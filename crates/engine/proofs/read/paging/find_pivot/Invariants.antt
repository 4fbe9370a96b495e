use Rattle.std.proofs.Common.{IfSome}
use Rattle.engine.specs.Before.{IsPivot}
use Rattle.engine.specs.Shown.{seen_all}
use Rattle.engine.proofs.read.paging.find_pivot.Given as goal

-- what was found so far is a pivot
abbrev pub invariant-loop-list : goal.invariant-loop-list
invariant-loop-list l = IfSome l.found (λ p. IsPivot (seen_all l.lists) l.from p)
