use Rattle.std.specs.Prelude.{◌≡◌, length, vec_len}
use Rattle.cluster.proofs.left.all_kept.Given as goal

-- each so far is kept
abbrev pub invariant-loop-left : goal.invariant-loop-left
invariant-loop-left g l = vec_len l.all ≡ length l.yielded
