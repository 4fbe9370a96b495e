use Rattle.std.proofs.Common.{◌≡◌, map, take}
use Rattle.audit.specs.Audit.{placed_in, PassBelow}
use Rattle.audit.proofs.auditing.judge_all.Given as goal

-- the journals so far pass, and these are their moves
abbrev pub invariant-loop-node : goal.invariant-loop-node
invariant-loop-node l = record { parts : l.parts.items ≡ map placed_in (take l.node l.journals); below : PassBelow l.mapping l.copies l.journals l.node }
