use Rattle.std.proofs.Common.{◌≡◌, ◌++◌, drop, string_bytes}
use Rattle.scripts.specs.Reply.{ack_lines}
use Rattle.scripts.proofs.reply.ack_lines.Given as goal

-- the lines so far, and those of the operations that are left
abbrev pub invariant-loop-op : goal.invariant-loop-op
invariant-loop-op l = string_bytes l.text ++ ack_lines (drop l.op-index l.ops) ≡ ack_lines l.ops
