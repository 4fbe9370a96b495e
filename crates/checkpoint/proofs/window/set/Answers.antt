use Rattle.std.proofs.Common.{arith}
use Rattle.checkpoint.proofs.Bits.{marked-set}
use Rattle.checkpoint.proofs.window.set.Goals as goal

pub returns : goal.returns
returns c = marked-set c.args.words.now c.args.number (omega arith)
