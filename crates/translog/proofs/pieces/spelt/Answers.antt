use Rattle.op.specs.FormatFault.{malformed}
use Rattle.translog.proofs.PieceWriting.{large_alone, not_spelt}
use Rattle.translog.proofs.pieces.spelt.Goals as goal

pub returns-in-Err-Malformed-clause-large : goal.returns-in-Err-Malformed-clause-large
returns-in-Err-Malformed-clause-large c = λ large. large_alone c.args.group.now malformed c.requires (rw c.in-Err-Malformed.field-0-is at c.in-Err-Malformed.ensures.exact)

pub returns-in-Err-Malformed-clause-refused : goal.returns-in-Err-Malformed-clause-refused
returns-in-Err-Malformed-clause-refused c = not_spelt c.args.group.now malformed c.requires (rw c.in-Err-Malformed.field-0-is at c.in-Err-Malformed.ensures.exact)
