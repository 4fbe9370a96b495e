use Rattle.std.specs.Prelude.{◌≡◌, length, vec_len}
use Rattle.cluster.proofs.cluster.joined.Given as goal

-- each thread so far has left something
abbrev pub invariant-loop-thread : goal.invariant-loop-thread
invariant-loop-thread g l = vec_len l.lefts ≡ length l.yielded
