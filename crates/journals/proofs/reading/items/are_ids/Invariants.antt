use Rattle.std.proofs.Common.{◌≡◌, map, take}
use Rattle.serde_json.specs.View.{view}
use Rattle.journals.specs.Items as spec
use Rattle.journals.proofs.reading.items.are_ids.Given as goal

-- the items so far are the ids so far
abbrev pub invariant-ids : goal.invariant-ids
invariant-ids l = map view (take l.place l.items) ≡ map spec.natural (take l.place l.ids)
