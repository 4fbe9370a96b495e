use Rattle.std.proofs.Common.{◌≡◌, take}
use Rattle.op.specs.Ids.{without}
use Rattle.op.proofs.ids.CopyIds.without.Given as goal

-- those so far, but for the id
abbrev pub invariant-loop-other : goal.invariant-loop-other
invariant-loop-other l = l.items.items ≡ without (take l.other-index l.other-items) l.id
