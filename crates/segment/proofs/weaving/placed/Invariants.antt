use Rattle.std.proofs.Common.{◌≤◌, length}
use Rattle.segment.proofs.PlacedLaws.{ArePlacedFrom}
use Rattle.segment.proofs.weaving.placed.Given as goal

-- the documents that are not left have their places
abbrev pub invariant-loop-left : goal.invariant-loop-left
invariant-loop-left l = record {
  left : l.left ≤ length l.part;
  so_far : ArePlacedFrom l.sources l.taken l.mine l.part l.to l.bound l.left;
}

abbrev pub decreases-loop-left : goal.decreases-loop-left
decreases-loop-left l = l.left
