use Rattle.std.proofs.Common.{◌≡◌, map}
use Rattle.engine.specs.Shown.{hit_view}
use Rattle.shard.specs.Answering.{hit_of}
use Rattle.shard.proofs.answering.hits_of.Given as goal

-- the hits so far are those that were found so far
abbrev pub invariant-loop-hit : goal.invariant-loop-hit
invariant-loop-hit l = l.hits.items ≡ map (λ h. hit_of (hit_view h)) l.yielded
