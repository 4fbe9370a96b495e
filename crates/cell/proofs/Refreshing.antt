-- A write with the refresh behind it.
use Rattle.std.proofs.Common.{◌≡◌, ℕ, Bool, List, refl, sym, ap, subst, ◌∙◌, inl, inr}
use Rattle.std.specs.Prelude.{IsOk}
use Rattle.replica.specs.declared.input.Input.TheVariants.{Write as Client, Refresh}
use Rattle.replica.specs.declared.input.Write.{Write}
use Rattle.engine.specs.Answer.{Answer}
use Rattle.query.specs.Page.{PageData}
use Rattle.query.specs.Query.{Query}
use Rattle.published.specs.declared.listing.Published.{Published}
use Rattle.published.specs.Fresh.{FindsAfter}
use Rattle.published.specs.Listings.{ComesAfter}
use Rattle.published.specs.Places.{PlaceData}
use Rattle.published.specs.Search.{Finds, IsFloor}
use Rattle.published.specs.Line.{Line}
use Rattle.published.specs.Showing.{cell_of}
use Rattle.published.specs.Told.{IsOf}
use Rattle.node.specs.declared.fault.NodeFault.{NodeFault}
use Rattle.node.specs.declared.fault.NodeFault.TheVariants.{NoMemory}
use Rattle.node.specs.Entry.{Receipt}
use Rattle.node.specs.Passes.{PassData}
use Rattle.node.specs.Held.{IsCall, JournalData}
use Rattle.cell.specs.Publishing.{CellData, IsPublished, IsRefusedCall, IsShownAfter}
use Rattle.cell.specs.Refreshing.{IsRefreshed, IsUnnoted, IsUnrefreshed, IsWriteRefreshed}

-- what is shown is of the same cell as long as its book is the same
pub still_named : (named : Bool) (cell : ℕ × ℕ × ℕ) (h g : JournalData) (old new : Line) → IsPublished h old → IsPublished g new → new.book ≡ old.book → IsOf named cell old.shown → IsOf named cell new.shown
still_named named cell h g old new was is book of named_is = sym is.shown.cell ∙ is.cell ∙ ap cell_of book ∙ sym was.cell ∙ was.shown.cell ∙ of named_is

pub refreshed : (old new : CellData) (p q : PassData) (r : Receipt) (note : Published) → IsCall old.journal new.journal p q Refresh r × IsOk r.deed.answer → IsShownAfter Refresh old new → note ≡ new.line.shown → IsRefreshed old new p q note
refreshed old new p q r note call shown is = record { receipt = r; call = call.0; whole = shown.whole refl; note_is = is }

pub refresh_refused : (old new : CellData) (p q : PassData) (e : NodeFault) → IsRefusedCall old new p q Refresh e → IsUnnoted old new p q e
refresh_refused old new p q e is = inl is

pub unnoted : (old new : CellData) (p q : PassData) (r : Receipt) (e : NodeFault) → IsCall old.journal new.journal p q Refresh r × IsOk r.deed.answer → e ≡ NoMemory → IsUnnoted old new p q e
unnoted old new p q r e call is = inr (record { receipt = r; call = call.0; memory = is })

pub write_refreshed : (old mid new : CellData) (p m q : PassData) (w : Write) (r : Receipt) (note : Published) → IsCall old.journal mid.journal p m (Client w) r × IsOk r.deed.answer → IsRefreshed mid new m q note → IsWriteRefreshed old new p q w r note
write_refreshed old mid new p m q w r note call next = record { between = mid; passed = m; write = call.0; refresh = next }

pub write_refused : (old new : CellData) (p q : PassData) (w : Write) (e : NodeFault) → IsRefusedCall old new p q (Client w) e → IsUnrefreshed old new p q w e
write_refused old new p q w e is = inl is

pub write_stands : (old mid new : CellData) (p m q : PassData) (w : Write) (r : Receipt) (e : NodeFault) → IsCall old.journal mid.journal p m (Client w) r × IsOk r.deed.answer → IsUnnoted mid new m q e → IsUnrefreshed old new p q w e
write_stands old mid new p m q w r e call rest = inr (record { between = mid; passed = m; receipt = r; write = call.0; rest = rest })

-- what is found by a searcher that has learned the note
pub note_found : (old new : CellData) (p q : PassData) (w : Write) (r : Receipt) (note : Published) (before after : List Published) (query : Query) (page : PageData) (h : Answer) (at : PlaceData)
    → IsWriteRefreshed old new p q w r note → IsFloor note before → Finds before after query page h at → FindsAfter new.line.shown query page h at
note_found old new p q w r note before after query page h at told floor found = record {
  now = found.now;
  later = subst (λ (p : Published). ComesAfter found.now p) told.refresh.note_is (floor found.now found.later);
  found = found.found;
}
