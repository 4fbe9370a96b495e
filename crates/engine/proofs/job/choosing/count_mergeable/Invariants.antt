use Rattle.std.proofs.Common.{◌≡◌, ◌≤◌, take}
use Rattle.engine.proofs.ChoosingLaws.{mergeables}
use Rattle.engine.proofs.job.choosing.count_mergeable.Given as goal

-- those of the parts so far
abbrev pub invariant-loop-part : goal.invariant-loop-part
invariant-loop-part l = (l.count ≡ mergeables (take l.part-index l.parts)) × (l.count ≤ l.part-index)
