use Rattle.std.proofs.Common.{◌≡◌, take}
use Rattle.replica.proofs.equal.equal_items.Given as goal

-- the two agree so far
abbrev pub invariant-loop-place : goal.invariant-loop-place
invariant-loop-place l = take l.place l.items ≡ take l.place l.others
