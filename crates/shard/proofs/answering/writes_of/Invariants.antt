use Rattle.std.proofs.Common.{◌≡◌, map}
use Rattle.shard.specs.Answering.{write_of}
use Rattle.shard.proofs.answering.writes_of.Given as goal

-- the writes so far, as a copy takes them
abbrev pub invariant-loop-write : goal.invariant-loop-write
invariant-loop-write l = l.taken.items ≡ map write_of l.yielded
