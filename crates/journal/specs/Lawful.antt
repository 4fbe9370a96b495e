-- Which journals are lawful.
use Rattle.std.specs.Prelude.{false}
use Rattle.master.specs.declared.state.State.{State}
use Rattle.journal.specs.declared.journal.Journal.{Journal}
use Rattle.journal.specs.declared.journal.Journal.TheVariants.{OfMaster as of_master, OfCopy as of_copy}
use Rattle.journal.specs.Journal.{open_at, IsLegal}
use Rattle.journal.specs.Rulings.{Ruler, AreLegal}

-- the master at its journal's beginning
abbrev pub begins_open : State → Ruler
begins_open s = record { state = s; closed = false }

-- each answer of the journal may be given where it stands
abbrev pub IsLawful : Journal → Type 0
IsLawful (of_master s rs) = AreLegal (begins_open s) rs
IsLawful (of_copy c ds) = IsLegal (open_at c) 0 ds
