use Rattle.std.proofs.Common.{◌≡◌, take}
use Rattle.engine.proofs.ids.sought.sought_of.Given as goal

-- so far the ids so far
abbrev pub invariant-loop-id : goal.invariant-loop-id
invariant-loop-id l = l.all.items ≡ take l.id-index l.ids
