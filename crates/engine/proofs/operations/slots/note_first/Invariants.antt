use Rattle.std.proofs.Common.{◌≡◌}
use Rattle.engine.proofs.operations.slots.note_first.Given as goal

-- nothing changes
abbrev pub invariant-loop-at : goal.invariant-loop-at
invariant-loop-at l = l.slots ≡ l.fn.slots
