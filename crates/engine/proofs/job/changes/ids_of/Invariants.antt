use Rattle.std.proofs.Common.{◌≡◌, ◌++◌, drop}
use Rattle.engine.specs.Changes.{ids_on}
use Rattle.engine.proofs.job.changes.ids_of.Given as goal

-- those so far, and those that are left
abbrev pub invariant-loop-op : goal.invariant-loop-op
invariant-loop-op l = l.ids.items ++ ids_on (drop l.op-index l.ops) ≡ ids_on l.ops
