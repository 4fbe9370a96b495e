use Rattle.std.proofs.Common.{◌≡◌, ◌++◌, take}
use Rattle.engine.proofs.operations.history.push_copies.Given as goal

-- copies of the records so far stand behind
abbrev pub invariant-loop-kept : goal.invariant-loop-kept
invariant-loop-kept l = l.all.items ≡ l.initial.all.items ++ take l.kept-index l.records
