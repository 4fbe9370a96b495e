use Rattle.std.proofs.Common.{◌<◌, arith}
use Rattle.std.proofs.lemmas.Bool.Decides.{nat_tests}
use Rattle.engine.specs.Slot.{ops}
use Rattle.engine.proofs.ResyncLaws.{below-last}
use Rattle.engine.proofs.SlotLaws.{last-ops}
use Rattle.engine.proofs.operations.slots.are_below.Goals as goal

-- each number is below that of the last
pub returns-in-len1-up : goal.returns-in-len1-up
returns-in-len1-up c = λ less.
    let ss = c.args.slots.now in
    let last = last-ops ss c.last-item.result c.in-len1-up.len_at_least c.last-item.is in
    let lt : c.last-item.result.op.seq < c.args.count = grind (arith, nat_tests, less, c.seq.ensures) in
    below-last c.args.count (ops ss) c.last-item.result.op c.requires last.0 last.1 lt
