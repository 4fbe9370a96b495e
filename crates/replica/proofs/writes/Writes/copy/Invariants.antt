use Rattle.std.proofs.Common.{◌≡◌, take}
use Rattle.replica.proofs.writes.Writes.copy.Given as goal

-- the copies so far are the writes up to the index
abbrev pub invariant-loop-write : goal.invariant-loop-write
invariant-loop-write l = l.items.items ≡ take l.write-index l.self
