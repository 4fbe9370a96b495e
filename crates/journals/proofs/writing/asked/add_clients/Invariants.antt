use Rattle.std.proofs.Common.{◌≡◌, ◌++◌, map, take}
use Rattle.serde_json.specs.View.{view}
use Rattle.journals.specs.Asked as spec
use Rattle.journals.proofs.writing.asked.add_clients.Given as goal

-- what was made is the items before, and those so far
abbrev pub invariant-writes : goal.invariant-writes
invariant-writes l = map view l.items.items ≡ map view l.initial.items.items ++ map spec.client_data (take l.write-index l.writes)
