use Rattle.std.specs.Prelude.{◌≡◌, length}
use Rattle.cluster.proofs.handing.copies_of.Given as goal

-- those so far
abbrev pub invariant-loop-left : goal.invariant-loop-left
invariant-loop-left g l = (l.copies.items ≡ l.yielded) × (length l.copies.items ≡ length l.yielded)
