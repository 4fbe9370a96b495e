use Rattle.std.proofs.Common.{arith}
use Rattle.op.proofs.Spellings.{decoded}
use Rattle.op.proofs.reading.decode.Goals as goal

pub returns-clause-spelt : goal.returns-clause-spelt
returns-clause-spelt c = decoded c.args.bytes.now c.whole_record.result (λ i. omega (arith, c.type_inv.bytes i)) c.whole_record.ensures
