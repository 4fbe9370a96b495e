use Rattle.std.proofs.Common.{drop}
use Rattle.audit.specs.Judge.{IsSoFar}
use Rattle.audit.proofs.judge.judge.Given as goal

abbrev pub invariant-loop-place : goal.invariant-loop-place
invariant-loop-place g l = IsSoFar (g.F.Follower.standing l.initial.follower) (g.F.Follower.standing l.follower) l.place l.deeds (drop l.place l.deeds) l.items.items
