use Rattle.std.proofs.Common.{◌≡◌, map, take}
use Rattle.engine.specs.Entry.{entry_view}
use Rattle.engine.specs.Shown.{shown_view}
use Rattle.engine.proofs.read.block.shown_of.Given as goal

-- the documents of the entries so far
abbrev pub invariant-loop-entry : goal.invariant-loop-entry
invariant-loop-entry l = map shown_view l.documents.items ≡ map entry_view (take l.entry-index l.entries)
