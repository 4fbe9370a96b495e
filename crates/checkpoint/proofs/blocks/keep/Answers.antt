use Rattle.std.proofs.Common.{◌%◌, arith}
use Rattle.checkpoint.proofs.WordBits.{spanned-keep}
use Rattle.checkpoint.proofs.blocks.keep.Goals as goal

pub returns : goal.returns
returns c = spanned-keep c.args.words.now (c.args.block % 17) c.args.mask (omega arith)
