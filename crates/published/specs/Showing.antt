-- The list that is shown.
use Rattle.std.specs.Prelude.{ℕ}
use Rattle.chronicle.specs.Written.{Line}
use Rattle.std.specs.Arc.{arc_value}
use Rattle.logbook.specs.Pages.{Book}
use Rattle.published.specs.declared.listing.Listing.{Listing}
use Rattle.published.specs.declared.showing.Showing.{Showing}

abbrev pub cell_of : Book → ℕ × ℕ × ℕ
cell_of b = (b.number, b.log_name, b.cells_name)

-- which registry it is
abbrev pub registry_of : Line → ℕ × ℕ × ℕ × ℕ
registry_of l = (l.book.number, l.book.log_name, l.book.cells_name, l.first)

-- what is shown in the cell of this book
abbrev pub listing : Book → Showing → Listing
listing b s = record { cell = cell_of b; registry = registry_of s.place.registry; mapping = (arc_value s.snapshot).mapping; records = s.place.records }
