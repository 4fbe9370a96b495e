use Rattle.std.proofs.Common.{◌∙◌, sym, ap, take}
use Rattle.doc.specs.Id.{is_id}
use Rattle.engine.specs.Slot.{ops}
use Rattle.engine.proofs.HeldLaws.{whole-at}
use Rattle.engine.proofs.NotedLaws.{AreNoted-push, AreNoted-skip}
use Rattle.engine.proofs.SlotLaws.{ops-more}
use Rattle.engine.proofs.operations.operation_index.numbers_of.Goals.{in-Some+in_ok-copy+in_ok-push, in_default}
use Rattle.engine.proofs.operations.operation_index.numbers_of.Goals as goal

-- one operation more
pub loop-slot-preserved : goal.loop-slot-preserved
loop-slot-preserved c =
    let ss = c.args.slots.now in
    let i = c.loop-slot.slot-index in
    let s = c.slot-item.result in
    rw (ops-more ss i s c.loop-slot-test.true c.slot-item.is)
    (elim c.match-id.branch [
      | in-Some+in_ok-copy+in_ok-push w ↦
          rw (w.numbers-is, w.in_ok-push.ensures.items)
          (AreNoted-push c.loop-slot.numbers.items (w.in_ok-copy.field-0, w.seq.result) (ops (take i ss)) s.op
          (λ id. ap (is_id id) w.in_ok-copy.ensures ∙ sym (w.in-Some.ensures.some id)) w.seq.ensures c.loop-slot.invariant)
      | in_default w ↦ rw w.numbers-is (AreNoted-skip c.loop-slot.numbers.items (ops (take i ss)) s.op (c.id.ensures.none w.in_default.is (whole-at ss i s c.loop-slot-test.true c.slot-item.is c.requires)) c.loop-slot.invariant)
    ])
