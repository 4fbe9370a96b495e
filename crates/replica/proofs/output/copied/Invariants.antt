use Rattle.std.proofs.Common.{◌≡◌, take}
use Rattle.replica.proofs.output.copied.Given as goal

-- the copies so far are the messages up to the index
abbrev pub invariant-loop-message : goal.invariant-loop-message
invariant-loop-message l = l.items.items ≡ take l.message-index l.messages
