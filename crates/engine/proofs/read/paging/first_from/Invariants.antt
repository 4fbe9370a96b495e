use Rattle.std.proofs.Common.{◌≡◌, filter, map, take}
use Rattle.engine.specs.Before.{is_behind}
use Rattle.engine.specs.Entry.{entry_view}
use Rattle.engine.specs.Parts.{woven}
use Rattle.engine.specs.Shown.{seen_all}
use Rattle.engine.proofs.read.paging.first_from.Given as goal

-- the first of the lists so far
abbrev pub invariant-loop-list : goal.invariant-loop-list
invariant-loop-list l = map entry_view l.first.items ≡ take l.wanted (filter (is_behind l.id) (woven (take l.list-index (seen_all l.lists))))
