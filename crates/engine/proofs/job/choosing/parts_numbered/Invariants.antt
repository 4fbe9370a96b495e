use Rattle.std.proofs.Common.{◌≡◌, take}
use Rattle.engine.proofs.ChoosingLaws.{chosen_of}
use Rattle.engine.proofs.job.choosing.parts_numbered.Given as goal

-- those of the parts so far
abbrev pub invariant-loop-part : goal.invariant-loop-part
invariant-loop-part l = l.chosen.items ≡ chosen_of l.numbers (take l.part-index l.parts)
