use Rattle.std.proofs.Common.{◌≡◌, ◌≤◌, length, take}
use Rattle.std.specs.List.{flat_map, AllByRecursion}
use Rattle.op.specs.Format.{operation_bytes, HasTexts}
use Rattle.op.proofs.writing.operations_len.Given as goal

abbrev pub invariant-loop-op : goal.invariant-loop-op
invariant-loop-op l = record {
  len : l.len ≡ length (flat_map operation_bytes (take l.op-index l.operations));
  bounded : l.len ≤ 4294967295;
  texts : AllByRecursion (λ o. HasTexts o.body) (take l.op-index l.operations);
}
