use Rattle.std.proofs.Common.{◌≡◌, take}
use Rattle.replica.proofs.output.Items.copy.Given as goal

-- the copies so far are the items up to the index
abbrev pub invariant-loop-item : goal.invariant-loop-item
invariant-loop-item l = l.items.items ≡ take l.item-index l.self
