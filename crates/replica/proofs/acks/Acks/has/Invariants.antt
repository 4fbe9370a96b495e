use Rattle.std.proofs.Common.{◌≡◌, drop}
use Rattle.op.specs.Ids.{has}
use Rattle.replica.specs.Acks.{acks_of}
use Rattle.replica.proofs.acks.Acks.has.Given as goal

-- the copies that are left decide
abbrev pub invariant-loop-other : goal.invariant-loop-other
invariant-loop-other l = has (acks_of (drop l.other-index l.other-items) l.id) l.number ≡ has (acks_of l.other-items l.id) l.number
