use Rattle.std.proofs.Common.{◌≡◌, map, take}
use Rattle.serde_json.specs.View.{view}
use Rattle.journals.specs.Items as spec
use Rattle.journals.proofs.reading.items.ops_of.Given as goal

-- what was found is the items so far
abbrev pub invariant-ops : goal.invariant-ops
invariant-ops l = map view (take l.item-index l.items) ≡ map spec.op_data l.found.items
