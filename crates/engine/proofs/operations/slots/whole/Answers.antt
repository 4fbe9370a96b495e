use Rattle.std.proofs.Common.{◌≡◌, ◌∙◌, ◌∷◌, ◌++◌, ◌+◌, [], List, take, ap, sym}
use Rattle.op.specs.declared.operation.Op.{Op}
use Rattle.engine.specs.Slot.{whole_ops}
use Rattle.engine.proofs.HeldLaws.{whole-more-kept, whole-more-gone}
use Rattle.engine.proofs.operations.slots.whole.Goals.{in-Ok+in_ok-copy+in_ok-push, in_default}
use Rattle.engine.proofs.operations.slots.whole.Goals as goal

-- one operation more, where its text is there
pub loop-slot-preserved : goal.loop-slot-preserved
loop-slot-preserved c =
    let ss = c.args.slots.now in
    let i = c.loop-slot.slot-index in
    let s = c.slot-item.result in
    let lt = c.loop-slot-test.true in
    elim c.match-op.branch [
      | in-Ok+in_ok-copy+in_ok-push w ↦
          let more : whole_ops (take (i + 1) ss) ≡ whole_ops (take i ss) ++ w.in-Ok.op.now ∷ [] = whole-more-kept ss i s w.in-Ok.op.now lt c.slot-item.is w.in-Ok.ensures.whole w.in-Ok.ensures.ok in
          rw (w.all-is, w.in_ok-push.ensures.items, w.in_ok-copy.ensures) (ap (λ (os : List Op). os ++ w.in-Ok.op.now ∷ []) c.loop-slot.invariant ∙ sym more)
      | in_default w ↦ rw w.all-is (c.loop-slot.invariant ∙ sym (whole-more-gone ss i s lt c.slot-item.is w.in_default.ensures.gone))
    ]
