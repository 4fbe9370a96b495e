use Rattle.std.proofs.Common.{◌≡◌, map}
use Rattle.op.specs.Ids.{ids_up_to}
use Rattle.replica.specs.Copy.{begun}
use Rattle.world.specs.Nodes.{copies_of, AreOpen}
use Rattle.world.proofs.nodes.copies.begun.Given as goal

-- those so far are the first ones
abbrev pub invariant-loop-before : goal.invariant-loop-before
invariant-loop-before l = (copies_of l.all.items ≡ map (λ id. begun id l.copies l.mapping) (ids_up_to l.before)) × AreOpen l.all.items
