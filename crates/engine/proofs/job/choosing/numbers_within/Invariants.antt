use Rattle.std.proofs.Common.{take}
use Rattle.engine.proofs.ChoosingLaws.{IsChoice}
use Rattle.engine.proofs.job.choosing.numbers_within.Given as goal

-- what is chosen of the parts so far
abbrev pub invariant-loop-part : goal.invariant-loop-part
invariant-loop-part l = IsChoice l.most (take l.part-index l.parts) l.numbers.items
