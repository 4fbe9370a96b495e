use Rattle.std.proofs.Common.{◌≡◌, map, take}
use Rattle.serde_json.specs.View.{view}
use Rattle.journals.specs.Asked as spec
use Rattle.journals.proofs.reading.asked.writes_of.Given as goal

-- what was found is the items so far
abbrev pub invariant-writes : goal.invariant-writes
invariant-writes l = map view (take l.item-index l.items) ≡ map spec.client_data l.found.items
