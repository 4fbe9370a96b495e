use Rattle.std.proofs.Common.{◌≡◌, take}
use Rattle.replica.proofs.equal.equal_writes.Given as goal

-- the two agree so far
abbrev pub invariant-loop-place : goal.invariant-loop-place
invariant-loop-place l = take l.place l.writes ≡ take l.place l.others
