-- What a client knows from replies about the documents that copies show.
use Rattle.std.specs.Prelude.{◌≡◌, ℕ, List, length, IfSome}
use Rattle.doc.specs.Mapping.{MappingData}
use Rattle.engine.specs.Answer.{Answer, SnapshotData, found}
use Rattle.op.specs.Documents.{documents}
use Rattle.op.specs.Records.{operations}
use Rattle.query.specs.Page.{PageData}
use Rattle.query.specs.Query.{Query}
use Rattle.published.specs.declared.listing.Listing.{Listing}
use Rattle.published.specs.Chain.{IsChain, IsLast}
use Rattle.published.specs.Search.{answer_in}
use Rattle.cell.specs.Points.{IsPoint, IsShownBehind, PointData}
use Rattle.front.specs.Reply.{Reply, counted, refreshed}
use Rattle.shard.specs.Answering.{hits_of}
use Rattle.group.specs.Known.{KnownData, HasRefreshed, IsLedBehind, seen_at}

-- the list was published: it is the last of a history in which each list extends the one before it. It has this mapping, and its records are those that
-- the copy has at this place of its journal
pub record IsShownAt (m : MappingData) (l : Listing) (at : PointData) : Type 0 where
  pub history : List Listing
  pub chain : IsChain history
  pub last : IsLast history l
  pub mapping : l.mapping ≡ m
  pub records : at.records ≡ l.records
  pub stands : IsPoint at

-- the hits are those of a published list
pub record IsFoundAt (m : MappingData) (q : Query) (page : PageData) (hits : Answer) (at : PointData) : Type 0 where
  pub listing : Listing
  pub shown : IsShownAt m listing at
  pub found : hits ≡ answer_in listing q page

-- the client sees the primary's list, at a place that isn't before the one that it saw of that copy last; and what the client knows then
pub record IsSeen (m : MappingData) (before : KnownData) (l : Listing) (after : KnownData) : Type 0 where
  pub at : PointData
  pub shown : IsShownAt m l at
  pub later : IfSome before.seen (λ h. IsShownBehind h at)
  pub led : IsLedBehind before.past at.node after.past
  pub now : after ≡ seen_at before at after.past

-- what searches of a published list see
abbrev pub shown_in : Listing → SnapshotData
shown_in l = record { mapping = l.mapping; documents = documents (operations l.records) }

-- the reply has the hits among the documents of the list that the client sees
pub record IsFound (m : MappingData) (before : KnownData) (q : Query) (page : PageData) (r : Reply) (after : KnownData) : Type 0 where
  pub listing : Listing
  pub seen : IsSeen m before listing after
  pub hits_are : r ≡ hits_of (answer_in listing q page)

-- the reply has the number of documents in this list that match the query
pub record IsCounted (m : MappingData) (before : KnownData) (q : Query) (r : Reply) (after : KnownData) : Type 0 where
  pub listing : Listing
  pub seen : IsSeen m before listing after
  pub total_is : r ≡ counted (length (found (shown_in listing) q))

-- the reply says how many copies were refreshed
pub record IsRefreshed (before : KnownData) (r : Reply) (after : KnownData) : Type 0 where
  pub copies : ℕ
  pub done : HasRefreshed before copies after
  pub heard : after.heard ≡ before.heard
  pub told : r ≡ refreshed copies
