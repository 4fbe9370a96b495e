use Rattle.std.proofs.Common.{◌≡◌, take}
use Rattle.segment.specs.Merged.{live_sources}
use Rattle.segment.proofs.merging.merge.Given as goal

-- the live documents of the segments so far are there
abbrev pub invariant-loop-part : goal.invariant-loop-part
invariant-loop-part l = l.sources.items ≡ live_sources (take l.part-index l.parts)
