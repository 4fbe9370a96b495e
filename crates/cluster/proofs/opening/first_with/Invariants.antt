use Rattle.std.proofs.Common.{◌≡◌, drop}
use Rattle.cluster.specs.Opening.{first_with}
use Rattle.cluster.proofs.opening.first_with.Given as goal

-- the copies that are left decide
abbrev pub invariant-loop-one : goal.invariant-loop-one
invariant-loop-one l = first_with l.next (drop l.one-index l.opened) ≡ first_with l.next l.opened
