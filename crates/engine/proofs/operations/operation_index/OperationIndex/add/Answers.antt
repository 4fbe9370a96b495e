use Rattle.std.proofs.Common.{◌≡◌, ◌≤◌, suc, length, List, insert, refl, ap, sym, subst, ◌∙◌, arith}
use Rattle.op.specs.declared.operation.Op.{Op}
use Rattle.op.specs.Operations.{local_count, placed}
use Rattle.op.proofs.OperationLaws.{add-free}
use Rattle.engine.specs.IdTables.{number_among}
use Rattle.engine.specs.OperationIndex.{IsIndexed}
use Rattle.engine.specs.Slot.{ops, AreHeld}
use Rattle.engine.proofs.HeldLaws.{ops-insert, AreHeld-placed}
use Rattle.engine.proofs.IndexLaws.{IsIndexed-placed, there}
use Rattle.engine.proofs.SlotLaws.{length-ops, whole}
use Rattle.engine.proofs.operations.operation_index.OperationIndex.add.Goals as goal

-- the operation goes in at its gap
pub invariant_of-self-in-Err : goal.invariant_of-self-in-Err
invariant_of-self-in-Err c =
    let ss = c.self.inside.slots.items in
    let os = ops ss in
    let o = c.args.op in
    let at = c.in-Err.at in
    let gap = rw c.deref.ensures.value at c.in-Err.ensures.absent in
    let counted = rw c.deref-in-Err.ensures.value at c.local_count_with-local.ensures in
    let made : ops (insert ss at (whole o)) ≡ placed os o = ops-insert ss at (whole o) ∙ gap.place o refl in
    rw (c.in_ok-insert-in-Err.ensures.items, c.in_ok-reserve-in-Err.ensures.items, c.in_ok-slot-in-Err.ensures) (
      subst (λ (ps : List Op). IsIndexed ps (λ id. number_among c.note.new.latest.tables.items id) c.local_count_with-local.result) (sym made)
          (IsIndexed-placed os _ _ _ _ o c.self.invariant.0 gap.free (rw c.in_ok-slot-in-Err.ensures at c.in_ok-note-in-Err.ensures.ok) (counted ∙ ap local_count (add-free os o gap.free))),
      subst (λ (ps : List Op). AreHeld ps (insert ss at (whole o))) (sym made) (AreHeld-placed os ss at o c.self.invariant.0.ascending gap.free c.self.invariant.1),
    )

-- its number is there
pub returns-in-Ok-clause-ok : goal.returns-in-Ok-clause-ok
returns-in-Ok-clause-ok c =
    let ss = c.self.inside.slots.items in
    let found = rw c.deref.ensures.value at c.in-Ok.ensures.found in
    let within = rw c.deref.ensures.value at c.in-Ok.ensures.there in
    let within_ops : suc c.in-Ok.field-0 ≤ length (ops ss) = omega (arith, within, length-ops ss) in
    rw (← c.self.view_is) (there (ops ss) c.args.op c.in-Ok.field-0 within_ops found)

-- it went in
pub returns-in_ok-insert-in-Err-clause-ok : goal.returns-in_ok-insert-in-Err-clause-ok
returns-in_ok-insert-in-Err-clause-ok c =
    let ss = c.self.inside.slots.items in
    let os = ops ss in
    let o = c.args.op in
    let at = c.in-Err.at in
    let gap = rw c.deref.ensures.value at c.in-Err.ensures.absent in
    rw (← c.self.view_is, c.in_ok-insert-in-Err.ensures.items, c.in_ok-reserve-in-Err.ensures.items, c.in_ok-slot-in-Err.ensures) (ops-insert ss at (whole o) ∙ gap.place o refl ∙ sym (add-free os o gap.free))
