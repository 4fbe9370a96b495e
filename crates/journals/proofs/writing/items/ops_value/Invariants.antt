use Rattle.std.proofs.Common.{◌≡◌, map, take}
use Rattle.serde_json.specs.View.{view}
use Rattle.journals.specs.Items as spec
use Rattle.journals.proofs.writing.items.ops_value.Given as goal

-- what was made is the items so far
abbrev pub invariant-ops : goal.invariant-ops
invariant-ops l = map view l.items.items ≡ map spec.op_data (take l.op-index l.ops)
