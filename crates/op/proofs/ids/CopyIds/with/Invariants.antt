use Rattle.std.proofs.Common.{◌≡◌, ◌++◌, drop, if◌then◌else◌}
use Rattle.op.specs.Ids.{with}
use Rattle.op.proofs.ids.CopyIds.with.Given as goal

-- what is written goes on with the ids that are left, and with the new one where it isn't there yet
abbrev pub invariant-loop-other : goal.invariant-loop-other
invariant-loop-other l = l.items.items ++ (if l.is_there then drop l.other-index l.other-items else with (drop l.other-index l.other-items) l.id) ≡ with l.other-items l.id
