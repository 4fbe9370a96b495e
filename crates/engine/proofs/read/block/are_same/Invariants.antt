use Rattle.std.proofs.Common.{◌≡◌, map, take}
use Rattle.engine.specs.Shown.{shown_view}
use Rattle.engine.proofs.read.block.are_same.Given as goal

-- the first documents are the same
abbrev pub invariant-loop-at : goal.invariant-loop-at
invariant-loop-at l = map shown_view (take l.at l.left) ≡ map shown_view (take l.at l.right)
