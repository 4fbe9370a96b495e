use Rattle.std.proofs.Common.{◌≡◌, ◌-◌, length, take, drop, sym, ap, subst, ◌∙◌}
use Rattle.op.specs.Operations.{IsAscending, below}
use Rattle.engine.specs.Slot.{ops}
use Rattle.engine.proofs.RefreshLaws.{rest-whole}
use Rattle.engine.proofs.ResyncLaws.{stays, IsAscending-take}
use Rattle.engine.proofs.SlotLaws.{ops-drop, ops-take}
use Rattle.engine.proofs.operations.slots.is_resynced.Goals as goal

-- the first of them rise too
pub are_below-requires : goal.are_below-requires
are_below-requires c = subst IsAscending (sym (ops-take _ c.args.slots.now)) (IsAscending-take _ (ops c.args.slots.now) c.requires)

-- the first stay, and the others are those that come
pub returns-then-are_below : goal.returns-then-are_below
returns-then-are_below c = λ same runs.
    let ss = c.args.slots.now in
    let k = length ss - length c.args.tail.now in
    let first : below c.args.count (take k (ops ss)) ≡ take k (ops ss) = rw (ops-take k ss) at (c.are_below.ensures c.if-are_below.true) in
    let rest : drop k (ops ss) ≡ c.args.tail.now = sym (ops-drop k ss) ∙ ap ops (sym (rest-whole k ss)) ∙ c.are_same.ensures same in
    stays c.args.count k (ops ss) c.args.tail.now runs first rest
