-- The list of what a copy shows.
use Rattle.published.specs.declared.listing.Listing.{Listing}
use Rattle.published.specs.declared.listing.Published.{Published}
use Rattle.published.specs.declared.front.Entry.{Entry}
use Rattle.published.specs.Showing.{listing}

abbrev pub listing_of : Entry → Listing
listing_of e = listing e.front.book e.showing

-- the list, with the history of its cell up to it
abbrev pub published_of : Entry → Published
published_of e = record { listing = listing_of e; history = e.front.log }
