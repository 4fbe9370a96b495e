use Rattle.std.proofs.Common.{◌≡◌, map}
use Rattle.shard.specs.Answering.{item_reply_of}
use Rattle.shard.proofs.answering.replies_of.Given as goal

-- the replies so far tell what became of the writes so far
abbrev pub invariant-loop-item : goal.invariant-loop-item
invariant-loop-item l = l.replies.items ≡ map (item_reply_of l.copies) l.yielded
