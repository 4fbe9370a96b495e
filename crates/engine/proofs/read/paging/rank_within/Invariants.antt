use Rattle.std.proofs.Common.{◌≡◌, ◌≤◌, take}
use Rattle.engine.specs.Before.{rank}
use Rattle.engine.specs.Shown.{seen_all}
use Rattle.engine.proofs.read.paging.rank_within.Given as goal

-- the documents of the lists so far
abbrev pub invariant-loop-list : goal.invariant-loop-list
invariant-loop-list l = record {
  is : l.total ≡ rank l.id (take l.list-index (seen_all l.lists));
  few : l.total ≤ l.most;
}
