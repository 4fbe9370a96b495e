use Rattle.std.proofs.Common.{◌≡◌, ◌≤◌, ◌++◌, ◌+◌, ◌-◌, map, length, drop}
use Rattle.engine.specs.Entry.{entry_view}
use Rattle.engine.specs.Parts.{merged}
use Rattle.engine.proofs.read.merging.merge.Given as goal

-- what is there so far, and both of what is left, is both
abbrev pub invariant-loop-next : goal.invariant-loop-next
invariant-loop-next l = record {
  left : l.from_left ≤ length l.left;
  right : l.from_right ≤ length l.right;
  all : map entry_view l.all.items ++ merged (drop l.from_left (map entry_view l.left)) (drop l.from_right (map entry_view l.right)) ≡ merged (map entry_view l.left) (map entry_view l.right);
}

abbrev pub decreases-loop-next : goal.decreases-loop-next
decreases-loop-next l = (length l.left - l.from_left) + (length l.right - l.from_right)
