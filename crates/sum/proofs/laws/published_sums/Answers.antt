use Rattle.std.proofs.Common.{refl}
use Rattle.sum.specs.Crc.{shifted_by}
use Rattle.sum.proofs.laws.published_sums.Goals as goal

pub returns-clause-digits : goal.returns-clause-digits
unfolding shifted_by
returns-clause-digits c = refl

pub returns-clause-zeros : goal.returns-clause-zeros
unfolding shifted_by
returns-clause-zeros c = refl
