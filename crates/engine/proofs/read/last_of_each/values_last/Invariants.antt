use Rattle.std.proofs.Common.{◌≡◌, ◌++◌, drop}
use Rattle.std.specs.Map.{values_of}
use Rattle.engine.specs.LastOfEach.{last_from, last_of_runs}
use Rattle.engine.proofs.read.last_of_each.values_last.Given as goal

-- the values so far, and those from the last pair on
abbrev pub invariant-loop-pair : goal.invariant-loop-pair
invariant-loop-pair g l = l.values.items ++ values_of (last_from g.K.PartialEq.eq l.last (drop l.pair-index l.rest)) ≡ values_of (last_of_runs g.K.PartialEq.eq l.pairs)
