use Rattle.std.proofs.Common.{◌≡◌, take, None, if◌then◌else◌}
use Rattle.op.specs.Operations.{last_on}
use Rattle.op.specs.Records.{operations}
use Rattle.engine.specs.Latest.{last_in, AreOn, Key}
use Rattle.engine.specs.Parts.{is_among}
use Rattle.engine.proofs.read.documents.latest_at.Given as goal

-- so far the last operations on the ids so far
abbrev pub invariant-loop-id : goal.invariant-loop-id
invariant-loop-id l = record {
  on : AreOn l.noted.items;
  last : (q : Key) → last_in l.noted.items q ≡ (if is_among (take l.id-index l.ids) q.now then last_on (operations l.history.records) q.now else None);
}
