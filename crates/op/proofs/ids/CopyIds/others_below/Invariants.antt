use Rattle.std.proofs.Common.{◌≡◌}
use Rattle.std.specs.Prelude.{filter, not}
use Rattle.op.specs.Ids.{has, ids_below}
use Rattle.op.proofs.ids.CopyIds.others_below.Given as goal

-- those so far that aren't here
abbrev pub invariant-loop-id : goal.invariant-loop-id
invariant-loop-id l = l.items.items ≡ filter (λ r. not (has l.self r)) (ids_below l.id)
