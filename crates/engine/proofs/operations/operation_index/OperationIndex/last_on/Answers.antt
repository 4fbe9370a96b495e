use Rattle.std.proofs.Common.{◌≡◌, ◌∙◌, Some, sym, ap, arith}
use Rattle.op.specs.Operations.{last_on}
use Rattle.engine.specs.Slot.{ops}
use Rattle.engine.proofs.HeldLaws.{found-slot, last-whole}
use Rattle.engine.proofs.IndexLaws.{found_at}
use Rattle.engine.proofs.operations.operation_index.OperationIndex.last_on.Goals as goal

-- there is an operation with that number
pub returns-in_default : goal.returns-in_default
returns-in_default c =
    let os = ops c.self.inside.slots.items in
    let number = rw (← c.self.view_is) at c.in_ok-seq.ensures.number in
    let gap = rw c.deref.ensures.value at c.in_default.ensures.absent in
    rw (← c.self.view_is) (sym gap.free ∙ found_at os c.args.id.now c.in_ok-seq.seq c.self.invariant.0.ascending number)

-- it is the last on the id
pub returns-in-Ok-op : goal.returns-in-Ok-op
returns-in-Ok-op c =
    let ss = c.self.inside.slots.items in
    let number = rw (← c.self.view_is) at c.in_ok-seq.ensures.number in
    let found = rw c.deref.ensures.value at c.in-Ok.ensures.found in
    let there = rw c.deref.ensures.value at c.in-Ok.ensures.there in
    rw (← c.self.view_is)
    (ap (λ o. Some o) c.in-Ok-op.ensures.ok ∙ found-slot ss c.in-Ok.at c.index.result.now (omega (arith, there)) c.index.ensures ∙ found ∙ found_at (ops ss) c.args.id.now c.in_ok-seq.seq c.self.invariant.0.ascending number)

-- so its text is there
pub returns-in-Err : goal.returns-in-Err
returns-in-Err c =
    let ss = c.self.inside.slots.items in
    let s = c.index.result.now in
    let number = rw (← c.self.view_is) at c.in_ok-seq.ensures.number in
    let found = rw c.deref.ensures.value at c.in-Ok.ensures.found in
    let there = rw c.deref.ensures.value at c.in-Ok.ensures.there in
    let last : Some s.op ≡ last_on (ops ss) c.args.id.now
    = found-slot ss c.in-Ok.at s (omega (arith, there)) c.index.ensures ∙ found ∙ found_at (ops ss) c.args.id.now c.in_ok-seq.seq c.self.invariant.0.ascending number in
    absurd (last-whole (ops ss) ss c.args.id.now c.in-Ok.at s c.self.invariant.1 (omega (arith, there)) c.index.ensures last c.in-Err.ensures.gone)
