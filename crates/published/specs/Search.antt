-- What a search tells.
use Rattle.std.specs.Prelude.{◌≡◌, List, ◌∷◌, Option}
use Rattle.engine.specs.Answer.{Answer, answer}
use Rattle.op.specs.Records.{operations}
use Rattle.query.specs.Page.{PageData}
use Rattle.query.specs.Query.{Query}
use Rattle.published.specs.declared.listing.Listing.{Listing}
use Rattle.published.specs.declared.listing.Published.{Published}
use Rattle.published.specs.Chain.{IsChain, IsLast}
use Rattle.published.specs.Listings.{ComesAfter, ComesAfterAll}
use Rattle.published.specs.Places.{PlaceData}
use Rattle.published.specs.Showing.{registry_of}
use Rattle.published.specs.Told.{listed}

-- what a search of a list answers
abbrev pub answer_in : Listing → Query → PageData → Answer
answer_in l q page = answer l.mapping (operations l.records) q page

-- the hits are those of what was published: the last list of its history, in which each extends the one before it; and its records are those at this place
pub record IsFoundIn (p : Published) (q : Query) (page : PageData) (hits : Answer) (at : PlaceData) : Type 0 where
  pub chain : IsChain p.history
  pub last : IsLast p.history p.listing
  pub found : hits ≡ answer_in p.listing q page
  pub registry : registry_of at.registry ≡ p.listing.registry
  pub records : at.records ≡ p.listing.records

-- whatever comes after all that is known afterwards comes after this too
abbrev pub IsFloor : Published → List Published → Type 0
IsFloor p after = (later : Published) → ComesAfterAll later after → ComesAfter later p

-- nothing that was known is forgotten
pub record IsNoLess (before after : List Published) : Type 0 where
  pub kept : (later : Published) → ComesAfterAll later after → ComesAfterAll later before

-- the hits are those of what was published and comes after all that was known; it is known from then on
pub record Finds (before after : List Published) (q : Query) (page : PageData) (hits : Answer) (at : PlaceData) : Type 0 where
  pub now : Published
  pub later : ComesAfterAll now before
  pub known : IsFloor now after
  pub found : IsFoundIn now q page hits at

-- the hits are those of the later of what was taken and what the note says
pub record FindsIn (taken : Published) (told : Option Published) (q : Query) (page : PageData) (hits : Answer) (at : PlaceData) : Type 0 where
  pub now : Published
  pub fresh : ComesAfter now taken
  pub later : ComesAfterAll now (listed told)
  pub known : IsFloor now (taken ∷ listed told)
  pub found : IsFoundIn now q page hits at
