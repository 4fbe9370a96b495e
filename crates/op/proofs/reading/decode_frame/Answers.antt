use Rattle.std.proofs.Common.{arith}
use Rattle.op.proofs.Groups.{frame_decoded}
use Rattle.op.proofs.reading.decode_frame.Goals as goal

pub returns-clause-spelt : goal.returns-clause-spelt
returns-clause-spelt c = frame_decoded (λ v. v.items) c.args.bytes.now c.whole_frame.result (λ i. omega (arith, c.type_inv.bytes i)) c.whole_frame.ensures
