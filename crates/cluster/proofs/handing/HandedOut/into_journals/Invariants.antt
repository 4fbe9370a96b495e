use Rattle.std.specs.Prelude.{◌≡◌, ◌∷◌}
use Rattle.cluster.proofs.handing.HandedOut.into_journals.Given as goal

-- the master's, and those of the copies so far
abbrev pub invariant-loop-copy : goal.invariant-loop-copy
invariant-loop-copy g l = l.journals.items ≡ l.fn.self.master ∷ l.yielded
