use Rattle.std.proofs.Common.{◌≡◌, take}
use Rattle.replica.proofs.acks.Acks.copy.Given as goal

-- so far, the same
abbrev pub invariant-loop-id : goal.invariant-loop-id
invariant-loop-id l = l.items.items ≡ take l.id-index l.id-items
