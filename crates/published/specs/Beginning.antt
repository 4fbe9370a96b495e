-- A beginning of the history of a cell.
use Rattle.std.specs.Prelude.{List}
use Rattle.logbook.specs.Pages.{Book}
use Rattle.published.specs.declared.listing.Listing.{Listing}

pub record Beginning : Type 0 where
  pub book : Book
  pub log : List Listing

abbrev pub beginning : Book → List Listing → Beginning
beginning book log = record { book = book; log = log }
