use Rattle.std.proofs.Common.{◌≡◌, map, take}
use Rattle.engine.specs.Entry.{entry_view}
use Rattle.engine.specs.Shown.{seen}
use Rattle.engine.proofs.read.paging.entries_of.Given as goal

-- the entries so far
abbrev pub invariant-loop-shown : goal.invariant-loop-shown
invariant-loop-shown l = map entry_view l.entries.items ≡ seen (take l.shown-index l.list)
