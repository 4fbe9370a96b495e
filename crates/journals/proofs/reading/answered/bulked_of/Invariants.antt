use Rattle.std.proofs.Common.{◌≡◌, map, take}
use Rattle.serde_json.specs.View.{view}
use Rattle.journals.specs.Answered as spec
use Rattle.journals.proofs.reading.answered.bulked_of.Given as goal

-- what was found is the items so far
abbrev pub invariant-items : goal.invariant-items
invariant-items l = map view (take l.item-index l.items) ≡ map spec.item_data l.found.items
