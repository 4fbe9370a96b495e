use Rattle.std.proofs.Common.{◌≡◌, drop}
use Rattle.serde_json.specs.View.{items_view}
use Rattle.doc.specs.Outcome.{try_map}
use Rattle.doc.specs.Entries.{elements}
use Rattle.doc.specs.ScalarView.{scalars_view}
use Rattle.doc.proofs.Fronts.{with_front}
use Rattle.query.specs.Leaves.{scalar_of}
use Rattle.query.proofs.leaves.scalars_of.Given as goal

-- the values so far, and those that are left
abbrev pub invariant-loop-value : goal.invariant-loop-value
invariant-loop-value l =
    with_front (scalars_view l.found.items) (try_map (scalar_of l.field l.kind) (elements (items_view (drop l.value-index l.values))))
    ≡ try_map (scalar_of l.field l.kind) (elements (items_view l.values))
