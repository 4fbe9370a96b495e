use Rattle.std.proofs.Common.{◌≡◌, ◌-◌, take, drop, false, Some}
use Rattle.std.specs.Prelude.{fold}
use Rattle.doc.specs.Id.{Id}
use Rattle.op.specs.declared.operation.Op.{Op}
use Rattle.op.specs.Operations.{last_on, op_at}
use Rattle.op.specs.Records.{after_record, shown}
use Rattle.std.specs.List.{list_any}
use Rattle.engine.specs.Parts.{is_among}
use Rattle.engine.specs.SnapshotChange.{is_write}
use Rattle.engine.proofs.operations.history.History.ids_since.Given as goal

-- so far, the last operation on each other id is the one of the point, and no other record is one on such an id
abbrev pub invariant-loop-kept : goal.invariant-loop-kept
invariant-loop-kept l = record {
  others : (id : Id) → is_among l.ids.items id ≡ false → last_on (fold after_record (shown l.self.records l.point) (take l.kept-index (drop l.point l.self.records))) id ≡ last_on (shown l.self.records l.point) id;
  are : (id : Id) → is_among l.ids.items id ≡ list_any (is_write id) (take l.kept-index (drop l.point l.self.records));
  stay : (o : Op) → op_at (shown l.self.records l.point) o.seq ≡ Some o → op_at (fold after_record (shown l.self.records l.point) (take l.kept-index (drop l.point l.self.records))) o.seq ≡ Some o;
  left : l.left ≡ l.initial.left - l.kept-index;
}
