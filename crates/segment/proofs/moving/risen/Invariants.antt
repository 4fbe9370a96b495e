use Rattle.std.proofs.Common.{◌≡◌, ◌≤◌, ◌++◌, ◌+◌, ◌-◌, length, drop}
use Rattle.segment.specs.Woven.{risen}
use Rattle.segment.proofs.moving.risen.Given as goal

-- what is there so far, and both of what is left, is both
abbrev pub invariant-loop-from_left : goal.invariant-loop-from_left
invariant-loop-from_left l = record {
  left : l.from_left ≤ length l.left;
  right : l.from_right ≤ length l.right;
  all : l.all.items ++ risen (drop l.from_left l.left) (drop l.from_right l.right) ≡ risen l.left l.right;
}

abbrev pub decreases-loop-from_left : goal.decreases-loop-from_left
decreases-loop-from_left l = (length l.left - l.from_left) + (length l.right - l.from_right)
