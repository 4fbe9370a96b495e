-- What a search found, as it is replied.
use Rattle.std.proofs.Common.{◌≡◌, ℕ, List, [], ◌∷◌, map, refl, sym, ap, subst, ◌∙◌}
use Rattle.std.specs.Prelude.{IfSome}
use Rattle.doc.specs.Mapping.{MappingData}
use Rattle.engine.specs.declared.read.snapshot.Hit.{Hit}
use Rattle.engine.specs.Shown.{hit_view}
use Rattle.engine.specs.Answer.{Answer}
use Rattle.query.specs.Page.{PageData}
use Rattle.query.specs.Query.{Query}
use Rattle.published.specs.declared.listing.Published.{Published}
use Rattle.published.specs.Search.{Finds}
use Rattle.chronicle.specs.Written.{Line}
use Rattle.cell.specs.Points.{FindsUnder, IsPoint, IsShownBehind, PointData, place_in}
use Rattle.front.specs.Reply.{Reply, counted}
use Rattle.shard.specs.Answering.{hit_of, hits_of}
use Rattle.group.specs.Known.{KnownData, IsLedBehind, seen_at}
use Rattle.ruled.specs.declared.entry.MasterEntry.{MasterEntry}
use Rattle.published.specs.declared.listing.Listing.{Listing}
use Rattle.group.specs.Searching.{IsCounted, IsFound, IsFoundAt, IsSeen, IsShownAt}

pub each_in_turn : (found : List Hit) → map hit_of (map hit_view found) ≡ map (λ h. hit_of (hit_view h)) found
each_in_turn [] = refl
each_in_turn (h ∷ found) = ap (λ l. hit_of (hit_view h) ∷ l) (each_in_turn found)

-- what a searcher finds
pub found_at : (l : Line) (m : MappingData) (before after : List Published) (q : Query) (page : PageData) (h : Answer) (at : PointData) → FindsUnder m before after q page h (place_in l at) → IsPoint at → IsFoundAt m q page h at
found_at l m before after q page h at under stands = let f : Finds before after q page h (place_in l at) = under.finds in record {
  listing = f.now.listing;
  shown = record {
    history = f.now.history;
    chain = f.found.chain;
    last = f.found.last;
    mapping = under.mapping;
    records = f.found.records;
    stands = stands;
  };
  found = f.found.found;
}

-- the reply tells it
seen_of : (m : MappingData) (before after : KnownData) (l : Listing) (at : PointData) (past : List MasterEntry) → IsShownAt m l at → IfSome before.seen (λ x. IsShownBehind x at) → IsLedBehind before.past at.node past → after ≡ seen_at before at past → IsSeen m before l after
seen_of m before after l at past shown later led now = subst (λ (k : KnownData). IsSeen m before l k) (sym now) (record { at = at; shown = shown; later = later; led = led; now = refl })

pub found_seen : (m : MappingData) (before after : KnownData) (q : Query) (page : PageData) (h : Answer) (at : PointData) (past : List MasterEntry) (r : Reply) → IsFoundAt m q page h at → IfSome before.seen (λ x. IsShownBehind x at) → IsLedBehind before.past at.node past
    → after ≡ seen_at before at past → r ≡ hits_of h → IsFound m before q page r after
found_seen m before after q page h at past r is later led now told = record {
  listing = is.listing;
  seen = seen_of m before after is.listing at past is.shown later led now;
  hits_are = told ∙ ap hits_of is.found;
}

pub counted_seen : (m : MappingData) (before after : KnownData) (q : Query) (page : PageData) (h : Answer) (at : PointData) (past : List MasterEntry) (r : Reply) → IsFoundAt m q page h at → IfSome before.seen (λ x. IsShownBehind x at) → IsLedBehind before.past at.node past
    → after ≡ seen_at before at past → r ≡ counted h.total → IsCounted m before q r after
counted_seen m before after q page h at past r is later led now told = record {
  listing = is.listing;
  seen = seen_of m before after is.listing at past is.shown later led now;
  total_is = told ∙ ap (λ (a : Answer). counted a.total) is.found;
}
