use Rattle.std.proofs.Common.{map, string_bytes, take}
use Rattle.journals.specs.Entries.{AreTexts}
use Rattle.journals.proofs.reading.journals_of.Given as goal

-- the journals so far are those of the texts so far
abbrev pub invariant-nodes : goal.invariant-nodes
invariant-nodes l = AreTexts l.top.copies l.top.mapping 0 (map string_bytes (take l.place l.texts)) l.found.items
