use Rattle.std.proofs.Common.{◌≡◌, drop}
use Rattle.checkpoint.specs.Numbers.{run}
use Rattle.replica.specs.Acks.{acks_of}
use Rattle.replica.proofs.acks.Acks.run.Given as goal

-- the copies that are left decide
abbrev pub invariant-loop-other : goal.invariant-loop-other
invariant-loop-other l = run (acks_of (drop l.other-index l.other-items) l.id) ≡ run (acks_of l.other-items l.id)
