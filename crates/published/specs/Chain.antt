-- The history of what a cell publishes, and the rule of its book.
use Rattle.std.specs.Prelude.{◌≡◌, ℕ, ◌==◌, true, List, [], ◌∷◌, ◌++◌, length, MatchBool, Option, Some, None}
use Rattle.logbook.specs.Pages.{Cell, Step, View, Book, Named}
use Rattle.published.specs.declared.listing.Listing.{Listing}
use Rattle.published.specs.Listings.{GoesOn}

-- the last of a listing and those after it
abbrev pub last_of : Listing → List Listing → Listing
last_of a [] = a
last_of a (b ∷ log) = last_of b log

-- each extends the one before it
abbrev pub RunsOn : Listing → List Listing → Type 0
RunsOn a [] = Unit {0}
RunsOn a (b ∷ log) = GoesOn b a × RunsOn b log

abbrev pub IsChain : List Listing → Type 0
IsChain [] = Unit {0}
IsChain (a ∷ log) = RunsOn a log

abbrev pub last_listing : List Listing → Option Listing
last_listing [] = None
last_listing (a ∷ log) = Some (last_of a log)

-- the listing is the last of the history
abbrev pub IsLast : List Listing → Listing → Type 0
IsLast log x = last_listing log ≡ Some x

-- the listing may come next
abbrev pub MayFollow : List Listing → Listing → Type 0
MayFollow [] x = Unit {0}
MayFollow (a ∷ log) x = GoesOn x (last_of a log)

-- the first word is the length of the history
pub record IsKept (cells : List Cell) (log : List Listing) : Type 0 where
  pub words : cells ≡ (length log, true) ∷ (0, true) ∷ []
  pub chain : IsChain log

abbrev pub head_of : Book → Named
head_of b = record { tracked = true; key = 0; book = b }

-- the listing was added to all that had been seen; or the history was longer, and was seen
abbrev pub Adds : Step Listing → View Listing ℕ → ℕ → View Listing ℕ → Type 0
Adds s v found w = MatchBool (found == s.old) ((w.0 ≡ v.0 ++ s.ask ∷ []) × IsChain w.0) ((length w.0 ≡ found) × IsChain w.0)
