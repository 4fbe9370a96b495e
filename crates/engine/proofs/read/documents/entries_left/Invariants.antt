use Rattle.std.proofs.Common.{◌≡◌, map, take}
use Rattle.engine.specs.Entry.{entry_view}
use Rattle.engine.specs.Latest.{left_all}
use Rattle.engine.proofs.read.documents.entries_left.Given as goal

-- so far those of the operations so far
abbrev pub invariant-loop-op : goal.invariant-loop-op
invariant-loop-op l = map entry_view l.entries.items ≡ left_all (take l.op-index l.operations)
