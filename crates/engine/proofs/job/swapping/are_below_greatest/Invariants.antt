use Rattle.std.proofs.Common.{◌≡◌, true, take}
use Rattle.std.specs.Prelude.{nat_lt}
use Rattle.std.specs.List.{list_all}
use Rattle.engine.specs.Parts.{all_published}
use Rattle.engine.specs.Published.{greatest}
use Rattle.engine.proofs.job.swapping.are_below_greatest.Given as goal

-- none of the parts so far bears it
abbrev pub invariant-loop-part : goal.invariant-loop-part
invariant-loop-part l = list_all (λ s. nat_lt s.number greatest) (all_published (take l.part-index l.parts)) ≡ true
