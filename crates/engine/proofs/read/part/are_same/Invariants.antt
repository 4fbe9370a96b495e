use Rattle.std.proofs.Common.{◌≡◌, take}
use Rattle.engine.proofs.read.part.are_same.Given as goal

-- the first marks are the same
abbrev pub invariant-loop-at : goal.invariant-loop-at
invariant-loop-at l = take l.at l.left ≡ take l.at l.right
