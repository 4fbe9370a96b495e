use Rattle.std.proofs.Common.{List, ◌++◌, length}
use Rattle.journal.specs.declared.journal.Deed.{Deed}
use Rattle.journals.specs.Entries.{IsTextOf, TellsDeed}
use Rattle.journals.proofs.reading.deeds_of.Given as goal

-- the entries so far, with those of the lines that are left, are those of the text
abbrev pub invariant-lines : goal.invariant-lines
invariant-lines l = (more : List Deed) → IsTextOf TellsDeed l.rest more → IsTextOf TellsDeed l.text (l.found.items ++ more)

abbrev pub decreases-lines : goal.decreases-lines
decreases-lines l = length l.rest
