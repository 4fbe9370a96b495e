-- Places of a cluster's journals.
use Rattle.std.proofs.Common.{◌≡◌, ℕ, List, [], ◌∷◌, refl, sym, ap, subst, ◌∙◌}
use Rattle.chronicle.specs.Registered.{PrefixData, prefix}
use Rattle.chronicle.specs.Written as chronicle
use Rattle.doc.specs.Mapping.{MappingData}
use Rattle.engine.specs.Answer.{Answer}
use Rattle.query.specs.Page.{PageData}
use Rattle.query.specs.Query.{Query}
use Rattle.journal.specs.declared.journal.Deed.{Deed}
use Rattle.replica.specs.Copy.{Copy}
use Rattle.node.specs.Entry.{opening_of, HasSoundRecords, IsJournalOf}
use Rattle.published.specs.declared.listing.Listing.{Listing}
use Rattle.published.specs.declared.listing.Published.{Published}
use Rattle.published.proofs.Orders.{trans-ComesAfterAll}
use Rattle.published.specs.Line.{Line}
use Rattle.published.specs.Listings.{GoesOn}
use Rattle.published.specs.Places.{PlaceData, IsStandingSince, place_at}
use Rattle.published.specs.Search.{Finds, IsNoLess}
use Rattle.published.specs.Showing.{registry_of}
use Rattle.cell.specs.Points.{FindsUnder, IsListedIn, IsPoint, IsPointSince, LeadsTo, PointData, place_in, point_of}

-- a place tells a journal of its copy
pub is_journal : (p : PointData) (u : PrefixData Deed) (n : ℕ) → IsPoint p → u ≡ prefix p.node p.deeds → n ≡ p.node → IsJournalOf n u.entries
is_journal p u n is same node =
    subst (λ (w : PrefixData Deed). IsJournalOf n w.entries) (sym same)
    (subst (λ m. IsJournalOf m p.deeds) (sym node) (record { opening = is.opening; sound = is.sound; legal = is.legal; node_is = is.node_is }))

-- what its journal began with
pub one_began : (cs : List Copy) (p : PointData) → IsStandingSince cs p.node p.deeds p.records → cs ≡ opening_of cs ∷ []
one_began cs p is = subst (λ (x : List Copy). x ≡ opening_of x ∷ []) (sym is.is) refl

pub began_sound : (cs : List Copy) (p : PointData) → IsStandingSince cs p.node p.deeds p.records → HasSoundRecords (opening_of cs)
began_sound cs p is = subst (λ (x : List Copy). HasSoundRecords (opening_of x)) (sym is.is) is.sound

pub began_node : (cs : List Copy) (p : PointData) (n : ℕ) → IsStandingSince cs p.node p.deeds p.records → n ≡ p.node → n ≡ (opening_of cs).id
began_node cs p n is node = node ∙ sym (ap (λ (x : List Copy). (opening_of x).id) is.is ∙ is.node_is)

pub began_since : (cs : List Copy) (p : PointData) (c : Copy) → IsStandingSince cs p.node p.deeds p.records → c ≡ opening_of cs → IsPointSince c p
began_since cs p c is same =
    subst (λ (x : Copy). IsPointSince x p) (sym (same ∙ ap opening_of is.is)) (record { sound = is.sound; legal = is.legal; node_is = is.node_is; records_is = is.records_is })

-- its numbers tell a registry
pub same_line : (l m : chronicle.Line) → registry_of l ≡ registry_of m → l ≡ m
same_line l m e = λ i. record { book = record { number = (e i).0; log_name = (e i).1; cells_name = (e i).2 }; first = (e i).3 }

-- what a searcher of a cluster's copy finds is of its journal
pub found_registry : (l : chronicle.Line) (m : MappingData) (before after : List Published) (q : Query) (page : PageData) (h : Answer) (at : PlaceData) → LeadsTo l m before → Finds before after q page h at → at.registry ≡ l
found_registry l m before after q page h at leads f = same_line at.registry l (f.found.registry ∙ (leads f.now f.later).registry)

-- a list that goes on from one of an index is of that index
listed_on : (l : chronicle.Line) (m : MappingData) (new old : Listing) → GoesOn new old → IsListedIn l m old → IsListedIn l m new
listed_on l m new old on is = record { registry = on.registry ∙ is.registry; mapping = on.mapping ∙ is.mapping }

pub found_leads : (l : chronicle.Line) (m : MappingData) (before after : List Published) (q : Query) (page : PageData) (h : Answer) (at : PlaceData) → LeadsTo l m before → Finds before after q page h at → LeadsTo l m after
found_leads l m before after q page h at leads f = λ p on. listed_on l m p.listing f.now.listing (f.known p on).listing (leads f.now f.later)

pub refused_leads : (l : chronicle.Line) (m : MappingData) (before after : List Published) → LeadsTo l m before → IsNoLess before after → LeadsTo l m after
refused_leads l m before after leads less = λ p on. leads p (less.kept p on)

pub found_in : (l : chronicle.Line) (m : MappingData) (before after : List Published) (q : Query) (page : PageData) (h : Answer) (at : PlaceData) (p : PointData) → LeadsTo l m before → p ≡ point_of at → Finds before after q page h at
    → FindsUnder m before after q page h (place_in l p)
found_in l m before after q page h at p leads is f =
    let registry : at.registry ≡ l = found_registry l m before after q page h at leads f in
    let whole : at ≡ place_in l p = (λ i. place_at (registry i) at.node at.deeds at.records) ∙ ap (place_in l) (sym is) in
    subst (λ (x : PlaceData). FindsUnder m before after q page h x) whole (record { finds = f; mapping = (leads f.now f.later).mapping })

-- whoever knows what was found knows all of before
pub finds_no_less : (m : MappingData) (before after : List Published) (q : Query) (page : PageData) (h : Answer) (at : PlaceData) → FindsUnder m before after q page h at → IsNoLess before after
finds_no_less m before after q page h at found = let f : Finds before after q page h at = found.finds in record { kept = λ p on. trans-ComesAfterAll before f.now p f.later (f.known p on) }

-- what a cell shows
pub shown_leads : (l : chronicle.Line) (m : MappingData) (p : Line) (known : List Published) → GoesOn p.top p.shown.listing → IsListedIn l m p.top → known ≡ p.shown ∷ [] → LeadsTo l m known
shown_leads l m p known on is knows =
    subst (λ (k : List Published). LeadsTo l m k) (sym knows)
    (λ q after. record { registry = after.0.listing.registry ∙ (sym on.registry ∙ is.registry); mapping = after.0.listing.mapping ∙ (sym on.mapping ∙ is.mapping) })
