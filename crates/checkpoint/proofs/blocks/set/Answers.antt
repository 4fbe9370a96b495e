use Rattle.std.proofs.Common.{arith}
use Rattle.checkpoint.proofs.WordBits.{spanned-set}
use Rattle.checkpoint.proofs.blocks.set.Goals as goal

pub returns : goal.returns
returns c = spanned-set c.args.words.now c.args.number (omega arith)
