use Rattle.std.proofs.Common.{List, ◌∙◌, ap}
use Rattle.std.proofs.lemmas.Result.{IfOk-weaker}
use Rattle.op.specs.declared.operation.Op.{Op}
use Rattle.op.specs.Operations.{last_on}
use Rattle.engine.specs.Slot.{whole_ops}
use Rattle.engine.proofs.HeldLaws.{last_on-whole}
use Rattle.engine.proofs.operations.operation_index.OperationIndex.last_ops.Goals as goal

-- only operations that newer ones replaced are left out
pub returns : goal.returns
returns c =
    let ss = c.self.inside.slots.items in
    IfOk-weaker c.whole.result _ _
    (λ v is id. ap (λ (os : List Op). last_on os id) (is ∙ ap whole_ops c.deref.ensures.value) ∙ last_on-whole ss id c.self.invariant.0.ascending c.self.invariant.1 ∙ ap (λ (os : List Op). last_on os id) c.self.view_is)
    c.whole.ensures
