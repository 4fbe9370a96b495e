use Rattle.op.proofs.Spellings.{spelling_read}
use Rattle.op.proofs.laws.spelt_is_read.Goals as goal

pub returns : goal.returns
returns c = spelling_read
