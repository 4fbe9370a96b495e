-- Lists of records that were published.
use Rattle.std.specs.Prelude.{◌≡◌, List, [], ◌∷◌}
use mathlib.Core.List.{IsPrefix}
use Rattle.op.specs.Records.{StartsWith}
use Rattle.published.specs.declared.listing.Listing.{Listing}
use Rattle.published.specs.declared.listing.Published.{Published}

-- a listing extends another of its cell
pub record GoesOn (new old : Listing) : Type 0 where
  pub cell : new.cell ≡ old.cell
  pub registry : new.registry ≡ old.registry
  pub mapping : new.mapping ≡ old.mapping
  pub records : StartsWith new.records old.records

-- what was published is the same or comes later in the same history
pub record ComesAfter (new old : Published) : Type 0 where
  pub history : IsPrefix old.history new.history
  pub listing : GoesOn new.listing old.listing

-- so it is with each of these
abbrev pub ComesAfterAll : Published → List Published → Type 0
ComesAfterAll new [] = Unit {0}
ComesAfterAll new (old ∷ olds) = ComesAfter new old × ComesAfterAll new olds
