use Rattle.std.proofs.Common.{◌≡◌, take, option_map}
use Rattle.op.specs.Operations.{last_on}
use Rattle.engine.specs.Slot.{whole_ops}
use Rattle.engine.proofs.operations.slots.last_number_on.Given as goal

-- so far, that of the operations so far that weren't let go
abbrev pub invariant-loop-slot : goal.invariant-loop-slot
invariant-loop-slot l = l.last ≡ option_map (λ o. o.seq) (last_on (whole_ops (take l.slot-index l.slots)) l.id)
