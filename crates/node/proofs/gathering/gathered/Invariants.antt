use Rattle.std.proofs.Common.{take, []}
use Rattle.node.specs.Gathered.{receipts_of, AreNext}
use Rattle.node.proofs.gathering.gathered.Given as goal

-- the receipts of the passes so far stand
abbrev pub invariant-loop-count : goal.invariant-loop-count
invariant-loop-count g l = AreNext l.journal [] (receipts_of (take l.count l.passes))
