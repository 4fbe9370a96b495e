use Rattle.std.proofs.Common.{◌≡◌, drop}
use Rattle.op.specs.Ids.{has}
use Rattle.op.proofs.ids.CopyIds.has.Given as goal

-- the ids that are left decide
abbrev pub invariant-loop-other : goal.invariant-loop-other
invariant-loop-other l = has (drop l.other-index l.other-items) l.id ≡ has l.other-items l.id
