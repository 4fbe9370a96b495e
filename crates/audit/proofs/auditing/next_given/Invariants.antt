use Rattle.std.proofs.Common.{◌≡◌, drop}
use Rattle.audit.specs.Given.{next_given}
use Rattle.audit.proofs.auditing.next_given.Given as goal

-- the entries that are left decide
abbrev pub invariant-loop-ruling : goal.invariant-loop-ruling
invariant-loop-ruling l = next_given l.next (drop l.ruling-index l.rulings) ≡ next_given l.first l.rulings
