use Rattle.std.proofs.Common.{◌≡◌, ◌∙◌, ◌<◌, ℕ, List, length, get_or, take, option_map, arith, ap, sym, subst}
use Rattle.std.specs.List.{AllByRecursion}
use Rattle.op.specs.declared.operation.Op.{Op}
use Rattle.op.specs.Operations.{IsAscending, last_on}
use Rattle.engine.specs.Slot.{SlotData, ops}
use Rattle.engine.proofs.HeldLaws.{whole-at}
use Rattle.engine.proofs.IndexLaws.{below_at, latest-push}
use Rattle.engine.proofs.SlotLaws.{length-ops, op-get, ops-more, ops-take}
use Rattle.engine.proofs.operations.operation_index.latest_numbers.Goals as goal

-- those before an operation have smaller numbers
below : (ss : List SlotData) (i : ℕ) (s : SlotData) → IsAscending (ops ss) → i < length ss → s ≡ get_or ss i s → AllByRecursion (λ p. p.seq < s.op.seq) (ops (take i ss))
below ss i s up lt is =
    let at : get_or (ops ss) i s.op ≡ s.op = op-get ss i s ∙ ap (λ (t : SlotData). t.op) (sym is) in
    subst (λ (os : List Op). AllByRecursion (λ p. p.seq < s.op.seq) os) (sym (ops-take i ss))
    (subst (λ (o : Op). AllByRecursion (λ p. p.seq < o.seq) (take i (ops ss))) at (below_at (ops ss) i s.op up (omega (arith, lt, length-ops ss))))

pub note-requires : goal.note-requires
note-requires c = whole-at c.args.slots.now c.loop-slot.slot-index c.slot-item.result c.loop-slot-test.true c.slot-item.is c.requires.whole

-- one operation more
pub loop-slot-preserved : goal.loop-slot-preserved
loop-slot-preserved c =
    let ss = c.args.slots.now in
    let i = c.loop-slot.slot-index in
    let s = c.slot-item.result in
    λ id.
    c.in_ok-note.ensures.ok id
    ∙ latest-push (ops (take i ss)) s.op id _ (below ss i s c.requires.ascending c.loop-slot-test.true c.slot-item.is) (c.loop-slot.invariant id)
    ∙ sym (ap (λ (os : List Op). option_map (λ o. o.seq) (last_on os id)) (ops-more ss i s c.loop-slot-test.true c.slot-item.is))
