use Rattle.std.proofs.Common.{◌≡◌, ◌++◌, take}
use Rattle.segment.specs.Merged.{chosen}
use Rattle.segment.proofs.merging.copy_live.Given as goal

-- the live documents so far are there
abbrev pub invariant-loop-source : goal.invariant-loop-source
invariant-loop-source l = record {
  at : l.at ≡ l.source-index;
  there : l.sources.items ≡ l.fn.sources.items ++ chosen (take l.source-index l.segment.sources) (take l.source-index l.live);
}
