use Rattle.std.proofs.Common.{◌≡◌, map, take}
use Rattle.serde_json.specs.View.{view}
use Rattle.journals.specs.Items as spec
use Rattle.journals.proofs.writing.items.ids_value.Given as goal

-- what was made is the items so far
abbrev pub invariant-ids : goal.invariant-ids
invariant-ids l = map view l.items.items ≡ map spec.natural (take l.id-index l.ids)
