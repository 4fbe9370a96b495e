use Rattle.std.proofs.Common.{◌∙◌, ap, rules, List, Option}
use Rattle.std.specs.Option.{option_map}
use Rattle.std.proofs.lemmas.List.{take_all}
use Rattle.op.specs.declared.operation.Op.{Op}
use Rattle.op.specs.Operations.{last_on}
use Rattle.engine.specs.Slot.{SlotData, whole_ops}
use Rattle.engine.proofs.HeldLaws.{last_on-more, last_on-whole}
use Rattle.engine.proofs.operations.slots.last_number_on.Goals.{then-is_on, else-is_on}
use Rattle.engine.proofs.operations.slots.last_number_on.Goals as goal

-- one operation more, where it wasn't let go
pub loop-slot-preserved : goal.loop-slot-preserved
loop-slot-preserved c =
    rw (last_on-more c.args.slots.now c.loop-slot.slot-index c.slot-item.result c.args.id.now c.loop-slot-test.true c.slot-item.is)
    (elim c.if-is_on.branch [
      | then-is_on w ↦ search rules
      | else-is_on w ↦ search rules
    ])

-- the last on the id wasn't let go
pub returns : goal.returns
returns c =
    let ss = c.args.slots.now in
    c.loop-slot.invariant
    ∙ ap (λ (l : Option Op). option_map (λ o. o.seq) l)
    (ap (λ (ts : List SlotData). last_on (whole_ops ts) c.args.id.now) (take_all c.loop-slot.slot-index ss c.loop-slot-test.false)
    ∙ last_on-whole ss c.args.id.now c.requires.ascending c.requires.held)
