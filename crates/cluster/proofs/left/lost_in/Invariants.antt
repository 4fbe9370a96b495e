use Rattle.std.specs.List.{AllWithin}
use Rattle.cluster.specs.Journals.{StandsIn}
use Rattle.cluster.proofs.left.lost_in.Given as goal

-- the receipts so far stand in the journals
abbrev pub invariant-loop-receipt : goal.invariant-loop-receipt
invariant-loop-receipt g l = AllWithin (StandsIn l.lefts) l.receipts 0 l.receipt-index
