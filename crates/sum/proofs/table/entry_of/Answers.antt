use Rattle.std.proofs.Common.{rules}
use Rattle.sum.specs.Crc.{shifted_by}
use Rattle.sum.proofs.table.entry_of.Goals as goal

pub returns : goal.returns
unfolding shifted_by
returns c = search rules
