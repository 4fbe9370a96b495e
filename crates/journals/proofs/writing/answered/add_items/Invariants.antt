use Rattle.std.proofs.Common.{◌≡◌, ◌++◌, map, take}
use Rattle.serde_json.specs.View.{view}
use Rattle.journals.specs.Answered as spec
use Rattle.journals.proofs.writing.answered.add_items.Given as goal

-- what was made is the items before, and those so far
abbrev pub invariant-items : goal.invariant-items
invariant-items l = map view l.items.items ≡ map view l.initial.items.items ++ map spec.item_data (take l.item-index l.all)
