use Rattle.std.proofs.Common.{◌≡◌, drop}
use Rattle.cluster.specs.Opened.{last_id}
use Rattle.cluster.proofs.crew.is_next.Given as goal

-- the last of those that are left, or where none is the last so far, is that of all
abbrev pub invariant-loop-one : goal.invariant-loop-one
invariant-loop-one g l = last_id l.last (drop l.one-index l.began) ≡ last_id 0 l.began
