use Rattle.std.proofs.Common.{◌≡◌, map, take}
use Rattle.engine.specs.Answer.{hit}
use Rattle.engine.specs.Entry.{entry_view}
use Rattle.engine.specs.Shown.{hit_view}
use Rattle.engine.proofs.read.snapshot.hits_of.Given as goal

-- the hits of the documents so far
abbrev pub invariant-loop-entry : goal.invariant-loop-entry
invariant-loop-entry l = map hit_view l.hits.items ≡ map hit (map entry_view (take l.entry-index l.entries))
