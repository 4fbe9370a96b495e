use Rattle.op.proofs.Lengths.{record_has}
use Rattle.op.proofs.laws.length_of_a_spelling.Goals as goal

pub returns : goal.returns
returns c = record_has
