use Rattle.std.proofs.Common.{◌<◌, ◌-◌, get_or, length, arith}
use Rattle.std.proofs.lemmas.Bool.Decides.{nat_tests}
use Rattle.engine.proofs.PlaceLaws.{gap-slot}
use Rattle.engine.proofs.operations.slots.is_above.Goals as goal

-- the last one has the greatest number
pub returns-then-len-gt0 : goal.returns-then-len-gt0
returns-then-len-gt0 c = λ less.
    let ss = c.args.slots.now in
    let above : (get_or ss (length ss - 1) c.index-slots-len.result).op.seq < c.args.seq = grind (arith, nat_tests, less, c.seq.ensures) in
    gap-slot ss c.args.seq (length ss - 1) c.index-slots-len.result c.requires (omega (arith, c.if-len-gt0.true)) above
