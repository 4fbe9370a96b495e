use Rattle.std.proofs.Common.{◌<◌, ◌^◌, arith}
use Rattle.std.proofs.lemmas.Int.{ints}
use Rattle.engine.specs.Slot.{ops}
use Rattle.engine.proofs.KeptLaws.{next_seq-last}
use Rattle.engine.proofs.SlotLaws.{last-ops}
use Rattle.engine.proofs.operations.slots.greatest.Goals as goal

pub overflow_cast-result : goal.overflow_cast-result
overflow_cast-result c =
    let ss = c.args.slots.now in
    let at = last-ops ss c.last-item.result (omega arith) c.last-item.is in
    let last = next_seq-last (ops ss) c.last-item.result.op at.0 at.1 in
    let small : c.last-item.result.op.seq < 2 ^ 63 = omega arith in
    omega (arith, ints)

pub returns-in-len1-up : goal.returns-in-len1-up
returns-in-len1-up c =
    let ss = c.args.slots.now in
    let at = last-ops ss c.last-item.result (omega arith) c.last-item.is in
    let last = next_seq-last (ops ss) c.last-item.result.op at.0 at.1 in
    let small : c.last-item.result.op.seq < 2 ^ 63 = omega arith in
    rw last (omega (arith, ints))
