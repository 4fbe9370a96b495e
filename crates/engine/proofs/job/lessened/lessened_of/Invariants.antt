use Rattle.std.proofs.Common.{◌≡◌, take}
use Rattle.std.specs.Prelude.{All}
use Rattle.engine.specs.Lessened.{all_before, IsLessened}
use Rattle.engine.specs.Parts.{all_published}
use Rattle.engine.proofs.job.lessened.lessened_of.Given as goal

-- what is left of the parts so far
abbrev pub invariant-loop-part : goal.invariant-loop-part
invariant-loop-part l = record {
  before : all_before l.all.items ≡ all_published (take l.part-index l.parts);
  are : All (IsLessened l.ids) l.all.items;
}
