use Rattle.std.proofs.Common.{List, ap, ◌∙◌}
use Rattle.op.specs.Operations.{reached}
use Rattle.engine.specs.Slot.{SlotData, ops}
use Rattle.engine.proofs.RefreshLaws.{rest-whole}
use Rattle.engine.proofs.SlotLaws.{ops-drop}
use Rattle.engine.proofs.operations.slots.local_count_on.Goals as goal

-- the slots that are left have the operations that are left
pub returns : goal.returns
returns c =
    let k = c.args.count in
    let ss = c.args.slots.now in
    c.reached.ensures ∙ ap (λ (ts : List SlotData). reached k (ops ts)) (rest-whole k ss) ∙ ap (reached k) (ops-drop k ss)
