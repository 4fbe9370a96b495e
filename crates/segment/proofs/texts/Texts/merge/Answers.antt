use Rattle.std.proofs.Common.{arith}
use Rattle.segment.proofs.MovingLaws.{risen-none}
use Rattle.segment.proofs.texts.Texts.merge.Goals as goal

pub returns-then-is_empty-clause-here : goal.returns-then-is_empty-clause-here
returns-then-is_empty-clause-here c = grind (arith, risen-none)
