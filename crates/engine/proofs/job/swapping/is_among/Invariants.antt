use Rattle.std.proofs.Common.{take}
use Rattle.std.specs.Prelude.{Contains}
use Rattle.engine.specs.Parts.{all_published, published_of}
use Rattle.engine.proofs.job.swapping.is_among.Given as goal

-- it isn't among the parts so far
abbrev pub invariant-loop-other : goal.invariant-loop-other
invariant-loop-other l = Contains (all_published (take l.other-index l.all)) (published_of l.part) → ⊥
