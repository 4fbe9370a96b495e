use Rattle.std.proofs.Common.{◌≡◌, ◌∙◌, ◌∷◌, ◌++◌, ◌+◌, [], List, take, ap, sym}
use Rattle.std.proofs.lemmas.List.{take_all}
use Rattle.std.proofs.lemmas.Result.{IfOk-weaker}
use Rattle.op.specs.declared.operation.Op.{Op}
use Rattle.op.specs.Operations.{last_on}
use Rattle.engine.specs.Slot.{SlotData, ops, whole_ops}
use Rattle.engine.proofs.HeldLaws.{last_on-whole, whole-more-kept, whole-more-gone}
use Rattle.engine.proofs.LatestLaws.{AreLastBy-made, last-more, on_last}
use Rattle.engine.proofs.read.documents.latest_of.Goals.{in-Ok+in_ok-note_last, in_default}
use Rattle.engine.proofs.read.documents.latest_of.Goals as goal

-- one operation more, where its text is there
pub loop-slot-preserved : goal.loop-slot-preserved
loop-slot-preserved c =
    let ss = c.args.slots.now in
    let i = c.loop-slot.slot-index in
    let s = c.slot-item.result in
    let lt = c.loop-slot-test.true in
    elim c.match-op.branch [
      | in-Ok+in_ok-note_last w ↦
          let more : whole_ops (take (i + 1) ss) ≡ whole_ops (take i ss) ++ w.in-Ok.op.now ∷ [] = whole-more-kept ss i s w.in-Ok.op.now lt c.slot-item.is w.in-Ok.ensures.whole w.in-Ok.ensures.ok in
          record {
            on = rw w.pairs-is w.in_ok-note_last.ensures.on;
            last = rw w.pairs-is (λ q. w.in_ok-note_last.ensures.last q ∙ last-more (whole_ops (take i ss)) w.in-Ok.op.now q.now _ (c.loop-slot.invariant.last q) ∙ ap (λ (ps : List Op). last_on ps q.now) (sym more));
          }
      | in_default w ↦
          let same : whole_ops (take (i + 1) ss) ≡ whole_ops (take i ss) = whole-more-gone ss i s lt c.slot-item.is w.in_default.ensures.gone in
          record {
            on = rw w.pairs-is c.loop-slot.invariant.on;
            last = rw w.pairs-is (λ q. c.loop-slot.invariant.last q ∙ ap (λ (ps : List Op). last_on ps q.now) (sym same));
          }
    ]

pub returns : goal.returns
returns c = IfOk-weaker c.last_of_each.result _ _
    (λ v made.
    let ss = c.args.slots.now in
    AreLastBy-made (last_on (ops ss)) (on_last (ops ss)) c.loop-slot.pairs.items v.items made
    (λ q. c.loop-slot.invariant.last q ∙ ap (λ (ts : List SlotData). last_on (whole_ops ts) q.now) (take_all c.loop-slot.slot-index ss c.loop-slot-test.false)
    ∙ last_on-whole ss q.now c.requires.ascending c.requires.held))
    c.last_of_each.ensures
