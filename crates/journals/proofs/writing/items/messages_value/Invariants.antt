use Rattle.std.proofs.Common.{◌≡◌, map, take}
use Rattle.serde_json.specs.View.{view}
use Rattle.journals.specs.Items as spec
use Rattle.journals.proofs.writing.items.messages_value.Given as goal

-- what was made is the items so far
abbrev pub invariant-messages : goal.invariant-messages
invariant-messages l = map view l.items.items ≡ map spec.message_data (take l.message-index l.messages)
