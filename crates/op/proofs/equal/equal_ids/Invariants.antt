use Rattle.std.proofs.Common.{◌≡◌, take}
use Rattle.op.proofs.equal.equal_ids.Given as goal

-- the two agree so far
abbrev pub invariant-loop-place : goal.invariant-loop-place
invariant-loop-place l = take l.place l.ids ≡ take l.place l.others
