-- A search that follows a note.
use Rattle.engine.specs.Answer.{Answer}
use Rattle.query.specs.Page.{PageData}
use Rattle.query.specs.Query.{Query}
use Rattle.published.specs.declared.listing.Published.{Published}
use Rattle.published.specs.Listings.{ComesAfter}
use Rattle.published.specs.Places.{PlaceData}
use Rattle.published.specs.Search.{IsFoundIn}

-- the hits are those of what comes after this
pub record FindsAfter (told : Published) (q : Query) (page : PageData) (hits : Answer) (at : PlaceData) : Type 0 where
  pub now : Published
  pub later : ComesAfter now told
  pub found : IsFoundIn now q page hits at
