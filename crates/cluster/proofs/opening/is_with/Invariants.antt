use Rattle.std.proofs.Common.{◌≡◌, drop}
use Rattle.cluster.specs.Opening.{is_with}
use Rattle.cluster.proofs.opening.is_with.Given as goal

-- the copies that are left decide
abbrev pub invariant-loop-one : goal.invariant-loop-one
invariant-loop-one l = is_with l.copy l.next (drop l.one-index l.opened) ≡ is_with l.copy l.next l.opened
