use Rattle.std.proofs.Common.{◌≡◌, take}
use Rattle.op.specs.Operations.{last_on}
use Rattle.engine.specs.Latest.{last_in, AreOn, Key}
use Rattle.engine.specs.Slot.{whole_ops}
use Rattle.engine.proofs.read.documents.latest_of.Given as goal

-- so far the last of the operations so far whose texts are there
abbrev pub invariant-loop-slot : goal.invariant-loop-slot
invariant-loop-slot l = record {
  on : AreOn l.pairs.items;
  last : (q : Key) → last_in l.pairs.items q ≡ last_on (whole_ops (take l.slot-index l.slots)) q.now;
}
