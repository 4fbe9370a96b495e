use Rattle.std.proofs.Common.{take}
use Rattle.engine.specs.Parts.{all_published, IsSplit}
use Rattle.engine.proofs.job.swapping.split.Given as goal

-- the parts so far in two halves
abbrev pub invariant-loop-part : goal.invariant-loop-part
invariant-loop-part l = IsSplit (all_published l.taken) (take l.part-index l.parts) l.stay.items l.go.items
