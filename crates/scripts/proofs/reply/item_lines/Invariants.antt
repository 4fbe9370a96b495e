use Rattle.std.proofs.Common.{◌≡◌, ◌++◌, drop, string_bytes}
use Rattle.scripts.specs.Reply.{item_lines}
use Rattle.scripts.proofs.reply.item_lines.Given as goal

-- the lines so far, and those of the items that are left
abbrev pub invariant-loop-item : goal.invariant-loop-item
invariant-loop-item l = string_bytes l.text ++ item_lines (drop l.item-index l.items) ≡ item_lines l.items
