use Rattle.audit.specs.Merge.{IsReached, IsWithin, left_of}
use Rattle.audit.proofs.merge.merge.Given as goal

abbrev pub invariant-loop-node : goal.invariant-loop-node
invariant-loop-node g l = record {
  within : IsWithin l.parts l.counts;
  reached : IsReached (g.S.Stage.world l.initial.stage) l.parts (g.S.Stage.world l.stage) l.counts;
}

abbrev pub decreases-loop-node : goal.decreases-loop-node
decreases-loop-node g l = left_of l.parts l.counts
