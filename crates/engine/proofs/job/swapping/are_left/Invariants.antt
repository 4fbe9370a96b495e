use Rattle.std.proofs.Common.{◌≡◌, take}
use Rattle.engine.specs.Parts.{documents_of_parts}
use Rattle.engine.proofs.job.swapping.are_left.Given as goal

-- the first parts show the same
abbrev pub invariant-loop-at : goal.invariant-loop-at
invariant-loop-at l = documents_of_parts (take l.at l.left) ≡ documents_of_parts (take l.at l.parts)
