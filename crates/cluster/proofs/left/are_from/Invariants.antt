use Rattle.std.proofs.Common.{take}
use Rattle.std.specs.List.{AllZip}
use Rattle.cluster.specs.Journals.{IsOwnFrom}
use Rattle.cluster.proofs.left.are_from.Given as goal

-- those so far are of their copies
abbrev pub invariant-loop-count : goal.invariant-loop-count
invariant-loop-count g l = AllZip IsOwnFrom (take l.count l.began) (take l.count l.lefts)
