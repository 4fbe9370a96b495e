use Rattle.checkpoint.proofs.WordBits.{all-ones, low-ones}
use Rattle.checkpoint.proofs.blocks.low_bits.Goals as goal

pub returns-then-count-ge64 : goal.returns-then-count-ge64
returns-then-count-ge64 c = λ i lt. all-ones c.args.count i c.if-count-ge64.true lt

pub returns : goal.returns
returns c = λ i lt. low-ones c.args.count i c.if-count-ge64.false lt
