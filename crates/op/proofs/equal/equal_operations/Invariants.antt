use Rattle.std.proofs.Common.{◌≡◌, take}
use Rattle.op.proofs.equal.equal_operations.Given as goal

-- the two agree so far
abbrev pub invariant-loop-place : goal.invariant-loop-place
invariant-loop-place l = take l.place l.operations ≡ take l.place l.others
