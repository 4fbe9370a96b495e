use Rattle.std.specs.Prelude.{◌≡◌, ◌+◌, ◌++◌, map, length, vec_len}
use Rattle.cluster.specs.Opened.{copy_of}
use Rattle.cluster.proofs.crew.Crew.launch_all.Given as goal

-- each copy so far has a thread, and what it was is told
abbrev pub invariant-loop-ready : goal.invariant-loop-ready
invariant-loop-ready g l = (vec_len l.self.threads ≡ vec_len l.initial.self.threads + length l.yielded) × (l.self.began.items ≡ l.initial.self.began.items ++ map copy_of l.yielded)
