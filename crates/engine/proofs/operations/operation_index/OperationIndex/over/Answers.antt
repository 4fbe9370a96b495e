use Rattle.std.proofs.Common.{◌∙◌, [], List, ap}
use Rattle.op.specs.Operations.{reached}
use Rattle.engine.specs.Slot.{SlotData, ops}
use Rattle.engine.proofs.HeldLaws.{AreHeld-append}
use Rattle.engine.proofs.operations.operation_index.OperationIndex.over.Goals as goal

-- they are found by what was noted
pub invariant_of-result : goal.invariant_of-result
invariant_of-result c =
    let ss = c.into_slots-slots.result.items in
    let made = c.into_slots-slots.ensures in (
      record {
        ascending = made.ascending;
        last = rw (← made.same) at c.requires;
        reached = c.local_count_on-local.ensures ∙ ap (λ (xs : List SlotData). reached 0 (ops xs)) c.deref.ensures.value;
      },
      AreHeld-append [] (ops ss) [] ss made.ascending tt made.whole,
    )
