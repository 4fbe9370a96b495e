use Rattle.std.proofs.Common.{◌≡◌, drop}
use Rattle.std.specs.List.{list_all}
use Rattle.serde_json.specs.View.{items_view}
use Rattle.doc.specs.Entries.{elements}
use Rattle.query.specs.Shape.{is_value}
use Rattle.query.proofs.leaves.check_values.Given as goal

-- the values that are left decide
abbrev pub invariant-loop-value : goal.invariant-loop-value
invariant-loop-value l = list_all is_value (elements (items_view (drop l.value-index l.values))) ≡ list_all is_value (elements (items_view l.values))
