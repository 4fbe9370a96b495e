use Rattle.std.proofs.Common.{◌≡◌, get_or, arith}
use Rattle.std.proofs.lemmas.Bool.Decides.{nat_tests}
use Rattle.engine.proofs.PlaceLaws.{op_at-slot}
use Rattle.engine.proofs.operations.slots.is_at.Goals as goal

-- an operation that has the number is the one that has it
pub returns-then-at-slots-clause-found : goal.returns-then-at-slots-clause-found
returns-then-at-slots-clause-found c = λ has.
    let is : (get_or c.args.slots.now c.args.seq c.index-slots-at.result).op.seq ≡ c.args.seq = grind (arith, nat_tests, has, c.seq.ensures, c.index-slots-at.is) in
    op_at-slot c.args.slots.now c.args.seq c.index-slots-at.result c.requires c.if-at-slots.true is
