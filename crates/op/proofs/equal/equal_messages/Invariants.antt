use Rattle.std.proofs.Common.{◌≡◌, take}
use Rattle.op.proofs.equal.equal_messages.Given as goal

-- the two agree so far
abbrev pub invariant-loop-place : goal.invariant-loop-place
invariant-loop-place l = take l.place l.messages ≡ take l.place l.others
