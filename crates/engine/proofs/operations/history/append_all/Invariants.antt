use Rattle.std.proofs.Common.{◌≡◌, ◌++◌, take}
use Rattle.chronicle.specs.Written.{written}
use Rattle.engine.proofs.operations.history.append_all.Given as goal

-- the records so far stand behind those that were noted
abbrev pub invariant-loop-kept : goal.invariant-loop-kept
invariant-loop-kept l = l.before ≡ written l.initial.before.line (l.initial.before.entries ++ take l.kept-index l.records)
