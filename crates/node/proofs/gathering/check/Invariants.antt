use Rattle.std.proofs.Common.{take}
use Rattle.node.specs.Gathered.{receipts_of, AreNext}
use Rattle.node.specs.Passes.{AreUpTo}
use Rattle.node.proofs.gathering.check.Given as goal

-- the receipts so far stand, and their places are at most the greatest
abbrev pub invariant-loop-count : goal.invariant-loop-count
invariant-loop-count g l = AreNext l.journal (receipts_of l.earlier) (take l.count l.receipts) × AreUpTo l.most (take l.count l.receipts)
