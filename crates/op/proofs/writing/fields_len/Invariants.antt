use Rattle.std.proofs.Common.{◌≡◌, ◌≤◌, ◌*◌, true, length, take}
use Rattle.std.specs.List.{flat_map, list_all, AllByRecursion}
use Rattle.op.specs.Format.{kept_fields, IsTyped}
use Rattle.op.specs.Rules.{is_of_group}
use Rattle.op.proofs.writing.fields_len.Given as goal

abbrev pub invariant-loop-found : goal.invariant-loop-found
invariant-loop-found l = record {
  len : l.len ≡ length (flat_map kept_fields (take l.found-index l.group));
  bounded : l.len ≤ l.found-index * 66087;
  rules : list_all is_of_group (take l.found-index l.group) ≡ true;
  typed : AllByRecursion IsTyped (take l.found-index l.group);
}
