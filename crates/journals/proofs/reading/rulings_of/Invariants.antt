use Rattle.std.proofs.Common.{List, ◌++◌, length}
use Rattle.journal.specs.declared.journal.Ruling.{Ruling}
use Rattle.journals.specs.Entries.{IsTextOf, TellsRuling}
use Rattle.journals.proofs.reading.rulings_of.Given as goal

-- the entries so far, with those of the lines that are left, are those of the text
abbrev pub invariant-lines : goal.invariant-lines
invariant-lines l = (more : List Ruling) → IsTextOf TellsRuling l.rest more → IsTextOf TellsRuling l.text (l.found.items ++ more)

abbrev pub decreases-lines : goal.decreases-lines
decreases-lines l = length l.rest
