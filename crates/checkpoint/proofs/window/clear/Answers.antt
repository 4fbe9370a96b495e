use Rattle.std.proofs.Common.{arith}
use Rattle.checkpoint.proofs.Bits.{marked-clear}
use Rattle.checkpoint.proofs.window.clear.Goals as goal

pub returns : goal.returns
returns c = marked-clear c.args.words.now c.args.number (omega arith)
