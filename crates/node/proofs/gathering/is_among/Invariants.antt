use Rattle.std.proofs.Common.{◌≡◌, drop}
use Rattle.node.specs.Gathered.{has_place}
use Rattle.node.proofs.gathering.is_among.Given as goal

-- the receipts that are left decide
abbrev pub invariant-loop-receipt : goal.invariant-loop-receipt
invariant-loop-receipt g l = has_place (drop l.receipt-index l.receipts) l.place ≡ has_place l.receipts l.place
