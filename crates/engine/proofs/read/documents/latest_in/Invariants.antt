use Rattle.std.proofs.Common.{◌≡◌, take}
use Rattle.op.specs.Operations.{last_on}
use Rattle.engine.specs.Latest.{last_in, AreOn, Key}
use Rattle.engine.proofs.read.documents.latest_in.Given as goal

-- so far the last of the operations so far
abbrev pub invariant-loop-op : goal.invariant-loop-op
invariant-loop-op l = record {
  on : AreOn l.pairs.items;
  last : (q : Key) → last_in l.pairs.items q ≡ last_on (take l.op-index l.operations) q.now;
}
