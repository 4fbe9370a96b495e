use Rattle.std.proofs.Common.{◌≡◌}
use Rattle.group.specs.Group.{replies_at}
use Rattle.group.proofs.bulks.replies_at.Given as goal

-- the replies so far tell what became of the writes so far
abbrev pub invariant-loop-item : goal.invariant-loop-item
invariant-loop-item g l = l.replies.items ≡ replies_at l.entries l.yielded l.places
