use Rattle.std.proofs.Common.{◌≡◌, ◌≤◌, suc, length, insert, refl, sym, subst, ◌∙◌, arith}
use Rattle.op.specs.Operations.{IsAscending, placed}
use Rattle.op.proofs.OperationLaws.{IsAscending-add, add-free}
use Rattle.engine.specs.Slot.{ops}
use Rattle.engine.proofs.HeldLaws.{ops-insert, AreWhole-insert}
use Rattle.engine.proofs.IndexLaws.{there}
use Rattle.engine.proofs.SlotLaws.{length-ops, whole}
use Rattle.engine.proofs.operations.ordered.Ordered.add.Goals as goal

-- the operation goes in at its gap
pub invariant_of-self-in-Err : goal.invariant_of-self-in-Err
invariant_of-self-in-Err c =
    let ss = c.self.inside.slots.items in
    let os = ops ss in
    let o = c.args.op in
    let at = c.in-Err.at in
    let gap = rw c.deref.ensures.value at c.in-Err.ensures.absent in
    let made : ops (insert ss at (whole o)) ≡ placed os o = ops-insert ss at (whole o) ∙ gap.place o refl in
    let up : IsAscending (placed os o) = subst IsAscending (add-free os o gap.free) (IsAscending-add os o c.self.invariant.0) in
    rw (c.in_ok-insert-in-Err.ensures.items, c.in_ok-slot-in-Err.ensures)
    (subst IsAscending (sym made) up, AreWhole-insert ss at o c.self.invariant.1)

pub returns-in_ok-insert-in-Err : goal.returns-in_ok-insert-in-Err
returns-in_ok-insert-in-Err c =
    let ss = c.self.inside.slots.items in
    let os = ops ss in
    let o = c.args.op in
    let at = c.in-Err.at in
    let gap = rw c.deref.ensures.value at c.in-Err.ensures.absent in
    let made : ops (insert ss at (whole o)) ≡ placed os o = ops-insert ss at (whole o) ∙ gap.place o refl in
    rw (← c.self.view_is) (rw (c.in_ok-insert-in-Err.ensures.items, c.in_ok-slot-in-Err.ensures) (made ∙ sym (add-free os o gap.free)))

-- its number is there
pub returns-in-Ok : goal.returns-in-Ok
returns-in-Ok c =
    let ss = c.self.inside.slots.items in
    let found = rw c.deref.ensures.value at c.in-Ok.ensures.found in
    let within = rw c.deref.ensures.value at c.in-Ok.ensures.there in
    let within_ops : suc c.in-Ok.field-0 ≤ length (ops ss) = omega (arith, within, length-ops ss) in
    rw (← c.self.view_is) (there (ops ss) c.args.op c.in-Ok.field-0 within_ops found)
