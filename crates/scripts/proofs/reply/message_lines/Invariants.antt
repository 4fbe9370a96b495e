use Rattle.std.proofs.Common.{◌≡◌, ◌++◌, ◌+◌, drop, string_bytes}
use Rattle.scripts.specs.Reply.{msg_lines}
use Rattle.scripts.proofs.reply.message_lines.Given as goal

-- the text so far, and the lines of the messages that are left
abbrev pub invariant-loop-place : goal.invariant-loop-place
invariant-loop-place l = string_bytes l.text ++ msg_lines (l.before + l.place) (drop l.place l.sent) ≡ msg_lines l.before l.sent
