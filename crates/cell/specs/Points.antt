-- Places of the journals of a cluster's copies, and searchers of what these show.
use Rattle.std.specs.Prelude.{◌≡◌, ℕ, List}
use mathlib.Core.List.{IsPrefix}
use Rattle.chronicle.specs.Registered.{PrefixData}
use Rattle.chronicle.specs.Written.{Line}
use Rattle.doc.specs.Mapping.{MappingData}
use Rattle.engine.specs.Answer.{Answer}
use Rattle.op.specs.declared.record.Record.{Record}
use Rattle.query.specs.Page.{PageData}
use Rattle.query.specs.Query.{Query}
use Rattle.journal.specs.declared.journal.Deed.{Deed}
use Rattle.published.specs.declared.listing.Listing.{Listing}
use Rattle.published.specs.declared.listing.Published.{Published}
use Rattle.published.specs.Listings.{ComesAfterAll}
use Rattle.published.specs.Places.{PlaceData, IsStanding, place_at}
use Rattle.replica.specs.Copy.{Copy}
use Rattle.journal.specs.Journal.{IsLegal, after, open_at}
use Rattle.node.specs.Entry.{HasSoundRecords}
use Rattle.published.specs.Search.{Finds}
use Rattle.published.specs.Showing.{registry_of}

-- the copy's number, the entries before the place, and the records that the copy has there
pub record PointData : Type 0 where
  pub node : ℕ
  pub deeds : List Deed
  pub records : List Record

abbrev pub point_of : PlaceData → PointData
point_of p = record { node = p.node; deeds = p.deeds; records = p.records }

-- the place, of a journal of this registry
abbrev pub place_in : Line → PointData → PlaceData
place_in l p = place_at l p.node p.deeds p.records

-- they are those after a legal journal
abbrev pub IsPoint : PointData → Type 0
IsPoint p = IsStanding p.node p.deeds p.records

-- they are those of the copy that this journal began with, after these entries
pub record IsPointSince (opening : Copy) (p : PointData) : Type 0 where
  pub sound : HasSoundRecords opening
  pub legal : IsLegal (open_at opening) 0 p.deeds
  pub node_is : opening.id ≡ p.node
  pub records_is : p.records ≡ (after (open_at opening) 0 p.deeds).copy.records

-- the place is of another copy, or of this one after all of these entries
abbrev pub IsShownBehind : PrefixData Deed → PointData → Type 0
IsShownBehind h p = p.node ≡ h.number → IsPrefix h.entries p.deeds

-- of which copy a searcher is, and what it knows of what that shows
pub record SearcherData : Type 0 where
  pub node : ℕ
  pub known : List Published

abbrev pub searcher_of : ℕ → List Published → SearcherData
searcher_of node known = record { node = node; known = known }

-- a list of a copy whose journal is of this registry, under this mapping
pub record IsListedIn (l : Line) (m : MappingData) (x : Listing) : Type 0 where
  pub registry : x.registry ≡ registry_of l
  pub mapping : x.mapping ≡ m

-- whatever comes after all that is known is such a list
abbrev pub LeadsTo : Line → MappingData → List Published → Type 0
LeadsTo l m known = (p : Published) → ComesAfterAll p known → IsListedIn l m p.listing

-- what a searcher finds is of a list under this mapping
pub record FindsUnder (m : MappingData) (before after : List Published) (q : Query) (page : PageData) (hits : Answer) (at : PlaceData) : Type 0 where
  pub finds : Finds before after q page hits at
  pub mapping : finds.now.listing.mapping ≡ m
