use Rattle.std.proofs.Common.{◌≡◌, ◌∙◌, List, Some, sym, ap, arith}
use Rattle.op.specs.declared.operation.Op.{Op}
use Rattle.op.specs.Operations.{op_at}
use Rattle.engine.specs.Slot.{ops}
use Rattle.engine.proofs.HeldLaws.{found-slot, replaced-at}
use Rattle.engine.proofs.operations.operation_index.OperationIndex.is_replaced.Goals as goal

-- the newer one is on the id of the operation
pub returns-in-Some : goal.returns-in-Some
returns-in-Some c = λ yes.
    let ss = c.self.inside.slots.items in
    let s = c.index.result.now in
    let found = rw c.deref.ensures.value at c.in-Ok.ensures.found in
    let there = rw c.deref.ensures.value at c.in-Ok.ensures.there in
    let at : Some s.op ≡ op_at (ops ss) c.args.seq = found-slot ss c.in-Ok.at s (omega (arith, there)) c.index.ensures ∙ found in
    replaced-at c.args.self.now c.args.seq s.op c.in-Some.id.now (at ∙ ap (λ (os : List Op). op_at os c.args.seq) c.self.view_is) c.in-Some.ensures.some (sym c.has_newer.ensures ∙ yes)
