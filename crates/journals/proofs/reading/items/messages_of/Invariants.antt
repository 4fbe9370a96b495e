use Rattle.std.proofs.Common.{◌≡◌, map, take}
use Rattle.serde_json.specs.View.{view}
use Rattle.journals.specs.Items as spec
use Rattle.journals.proofs.reading.items.messages_of.Given as goal

-- what was found is the items so far
abbrev pub invariant-messages : goal.invariant-messages
invariant-messages l = map view (take l.item-index l.items) ≡ map spec.message_data l.found.items
