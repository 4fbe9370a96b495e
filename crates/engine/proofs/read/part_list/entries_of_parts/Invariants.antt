use Rattle.std.proofs.Common.{◌≡◌, map, take}
use Rattle.engine.specs.Entry.{entry_view}
use Rattle.engine.specs.Parts.{documents_of_parts, woven}
use Rattle.engine.proofs.read.part_list.entries_of_parts.Given as goal

-- the documents of the parts so far
abbrev pub invariant-loop-part : goal.invariant-loop-part
invariant-loop-part l = map entry_view l.entries.items ≡ woven (take l.part-index (documents_of_parts l.parts))
