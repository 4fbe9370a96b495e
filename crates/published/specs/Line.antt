-- What a cell has published.
use Rattle.std.specs.Prelude.{◌≡◌, List, [], ◌∷◌, ◌++◌}
use mathlib.Core.List.{IsPrefix}
use Rattle.logbook.specs.Pages.{Book}
use Rattle.published.specs.declared.listing.Listing.{Listing}
use Rattle.published.specs.declared.listing.Published.{Published}
use Rattle.published.specs.Chain.{last_of}
use Rattle.published.specs.Listings.{GoesOn}
use Rattle.published.specs.Beginning.{Beginning}

-- the book of the cell, what is shown, and all lists that were to be shown, with the last of them: where a publish was refused it is later than what is shown
pub record Line : Type 0 where
  pub book : Book
  pub shown : Published
  pub top : Listing
  pub history : List Listing

-- one list more, which is shown
abbrev pub line_behind : Book → List Listing → Listing → Line
line_behind b history l = record { book = b; shown = record { listing = l; history = history ++ l ∷ [] }; top = l; history = history ++ l ∷ [] }

abbrev pub line : Book → Listing → Line
line b l = line_behind b [] l

abbrev pub top_of : Listing → List Listing → Listing
top_of shown [] = shown
top_of shown (a ∷ log) = last_of a log

abbrev pub line_of : Published → Beginning → Line
line_of shown h = record { book = h.book; shown = shown; top = top_of shown.listing h.log; history = h.log }

-- what is shown is of the history, and the writer knows it
pub record IsLine (shown : Published) (known : List Published) (h : Beginning) : Type 0 where
  pub begins : IsPrefix shown.history h.log
  pub later : GoesOn (top_of shown.listing h.log) shown.listing
  pub knows : known ≡ shown ∷ []
