-- What a call leaves of what is shown.
use Rattle.std.proofs.Common.{◌≡◌, ℕ, suc, Bool, true, false, List, [], ◌∷◌, ◌++◌, length, refl, sym, ap, subst, ◌∙◌, append-nil, Option, Some, None, Result, Ok, Err, IfOk, OnOk, OnErr, ◌⊎◌, ⊎_elim}
use Rattle.std.specs.Prelude.{IsOk}
use Rattle.chronicle.specs.Written as chronicle
use Rattle.chronicle.specs.Registered.{UptoData, upto}
use Rattle.doc.specs.Mapping.{MappingData}
use Rattle.op.specs.declared.record.Record.{Record}
use Rattle.replica.specs.declared.fault.CopyFault.{CopyFault}
use Rattle.replica.specs.declared.input.Input.{Input}
use Rattle.replica.specs.declared.input.Input.TheVariants.{Write, Bulk, Take, Report, Refresh, Get, Restart}
use Rattle.replica.specs.declared.output.Answer.TheVariants.{Point}
use Rattle.replica.specs.declared.output.Output.{Output}
use Rattle.replica.specs.declared.role.Role.{Role}
use Rattle.replica.specs.declared.role.Role.TheVariants.{Empty, Replica, Primary}
use Rattle.replica.specs.Copy.{Copy, opened}
use Rattle.replica.specs.Fault.{is_log}
use Rattle.replica.specs.Logged.{Logged, is_refresh}
use Rattle.replica.specs.Step.{Step, Stepped, copy_step, settled_as}
use Rattle.replica.proofs.Settled.{settled_opened}
use Rattle.published.specs.declared.listing.Listing.{Listing}
use Rattle.published.specs.declared.listing.Published.{Published}
use Rattle.published.specs.declared.showing.Showing.{Showing}
use Rattle.published.specs.Line.{Line, line, line_behind}
use Rattle.op.specs.Records.{StartsWith}
use Rattle.published.specs.Listings.{GoesOn}
use Rattle.published.specs.Places.{IsStanding, IsStandingSince}
use Rattle.published.specs.Showing.{cell_of, listing, registry_of}
use Rattle.published.proofs.Orders.{self-GoesOn, trans-GoesOn, trans-StartsWith}
use Rattle.journal.specs.declared.journal.Deed.{Deed}
use Rattle.journal.specs.Journal.{Shut, Standing, after, answered, found, is_kept, left_by, next, open_at, refused_at, reopened}
use Rattle.node.specs.Held.{JournalData, IsHeld}
use Rattle.cell.specs.Points.{IsListedIn}
use Rattle.cell.specs.Publishing.{CellData, IsBegun, IsLater, IsPublishedOf, IsShownBy, IsAllShown}
use Rattle.node.specs.Reading.{standing}
use Rattle.node.specs.Replay.{IsReplayedAs}
use Rattle.cell.proofs.Steps.{step-grows}

-- ---- records only get more

same_later : (c : Copy) → IsLater c c
same_later c = record { mapping = refl; records = ([], sym (append-nil c.records)) }

left_later : (c : Copy) (r : Step) → IfOk r (λ s. IsLater s.copy c) → IsLater (left_by c r) c
left_later c (Ok s) h = h
left_later c (Err e) h = same_later c

refused_later : (c : Copy) (place : ℕ) (input : Input) (b : Bool) → IsLater (refused_at c place input b).copy c
refused_later c place input true = same_later c
refused_later c place input false = same_later c

reopened_later : (c : Copy) (f : Shut) (b : Bool) → StartsWith f.other c.records → IsLater (reopened c (found c f b)) c
reopened_later c f true other = record { mapping = refl; records = other }
reopened_later c f false other = record { mapping = refl; records = ([], sym (append-nil c.records)) }

answered_later : (c : Copy) (shut : Option Shut) (place : ℕ) (input : Input) (r : Result Output CopyFault) (l : Logged) → IsReplayedAs c shut l → IsLater (answered c shut place input r).copy c
answered_later c None place input (Ok output) l is = left_later c (copy_step c input) (step-grows c input)
answered_later c None place input (Err e) l is = refused_later c place input (is_log e)
answered_later c (Some f) place input (Ok output) l is = reopened_later c f (is_kept c f output) is.other
answered_later c (Some f) place input (Err e) l is = same_later c

-- after one entry more
at_snoc : (P : Standing → Type 0) (s : Standing) (place : ℕ) (deeds : List Deed) (d : Deed) → ((at : ℕ) → P (next (after s place deeds) at d)) → P (after s place (deeds ++ d ∷ []))
at_snoc P s place [] d h = h place
at_snoc P s place (e ∷ deeds) d h = at_snoc P (next s place e) (suc place) deeds d h

-- a call of a copy leaves its records, or adds to them
pub call_later : (h new : JournalData) (d : Deed) (l : Logged) → IsHeld h l → new ≡ record h { deeds = h.deeds ++ d ∷ [] } → IsLater (standing new).copy (standing h).copy
call_later h new d l is more =
    subst (λ (j : JournalData). IsLater (standing j).copy (standing h).copy) (sym more)
    (at_snoc (λ s. IsLater s.copy (standing h).copy) (open_at h.opening) 0 h.deeds d (λ at. answered_later (standing h).copy (standing h).shut at d.input d.answer l is.replayed))

-- what was published begins the records afterwards too
pub published_later : (c d : Copy) (p : Line) → IsLater d c → IsPublishedOf c p → IsPublishedOf d p
published_later c d p later is = record {
  cell = is.cell;
  mapping = is.mapping ∙ sym later.mapping;
  records = trans-StartsWith p.top.records c.records d.records is.records later.records;
  shown = is.shown;
}

-- ---- a refresh shows all records

abbrev AllShown : Copy → Type 0
AllShown c = c.point ≡ length c.records

settled_shown : (s : Stepped) (role : Role) → AllShown s.copy → AllShown (settled_as s role).copy
settled_shown s Empty is = is
settled_shown s Replica is = is
settled_shown s (Primary lead) is = is

refresh_shows : (c : Copy) (input : Input) → is_refresh input ≡ true → AllShown (left_by c (copy_step c input))
refresh_shows c (Write w) e = absurd (let no : false ≡ true = e in cc)
refresh_shows c (Bulk ws) e = absurd (let no : false ≡ true = e in cc)
refresh_shows c (Take m) e = absurd (let no : false ≡ true = e in cc)
refresh_shows c (Report r) e = absurd (let no : false ≡ true = e in cc)
refresh_shows c Refresh e = settled_shown (record { copy = record c { point = length c.records }; answer = Point (length c.records); sent = []; acknowledged = [] }) c.role refl
refresh_shows c (Get id) e = absurd (let no : false ≡ true = e in cc)
refresh_shows c Restart e = subst (λ (r : Step). AllShown (left_by c r)) (sym (settled_opened c.id c.birth c.mapping c.records (Point (length c.records)))) refl

answered_shows : (c : Copy) (shut : Option Shut) (place : ℕ) (input : Input) (r : Result Output CopyFault) → is_refresh input ≡ true → IsOk r → AllShown (answered c shut place input r).copy
answered_shows c None place input (Ok output) e ok = refresh_shows c input e
answered_shows c None place input (Err f) e ok = absurd cc
answered_shows c (Some f) place input (Ok output) e ok = refl
answered_shows c (Some f) place input (Err g) e ok = absurd cc

-- after a refresh or a restart that was accepted the point is at the end
pub call_shows : (h new : JournalData) (d : Deed) → new ≡ record h { deeds = h.deeds ++ d ∷ [] } → is_refresh d.input ≡ true → IsOk d.answer → (standing new).copy.point ≡ length (standing new).copy.records
call_shows h new d more e ok =
    subst (λ (j : JournalData). AllShown (standing j).copy) (sym more)
    (at_snoc (λ s. AllShown s.copy) (open_at h.opening) 0 h.deeds d (λ at. answered_shows (standing h).copy (standing h).shut at d.input d.answer e ok))

-- ---- what is shown next

-- an open copy is what its journal says
open_as : (c : Copy) (shut : Option Shut) (l : Logged) → IsReplayedAs c shut l → l.closed ≡ false → l.copy ≡ c
open_as c None l is opened = is.1
open_as c (Some f) l is opened = absurd (let no : true ≡ false = sym is.closed ∙ opened in cc)

pub whole_copy : (h : JournalData) (l : Logged) → IsHeld h l → AllShown (standing h).copy → l.closed ≡ false → l.copy.point ≡ length l.copy.records
whole_copy h l is whole opened = subst (λ (c : Copy). AllShown c) (sym (open_as (standing h).copy (standing h).shut l is.replayed opened)) whole

pub shown_in : (q r : chronicle.Line) (h : JournalData) (l : Logged) (s : Showing) → IsHeld h l → l.closed ≡ false → q ≡ r → IsShownBy q l.copy s → IsShownBy r (standing h).copy s
shown_in q r h l s is opened same shown = subst (λ (x : chronicle.Line). IsShownBy x (standing h).copy s) same (subst (λ (c : Copy). IsShownBy q c s) (open_as (standing h).copy (standing h).shut l is.replayed opened) shown)

-- the place at the end of its journal
pub stands_at : (h : JournalData) (l : Logged) (n : ℕ) (u : UptoData Deed) (r : chronicle.Line) (rs : List Record) → IsHeld h l → l.closed ≡ false → n ≡ h.opening.id → u ≡ upto r h.opening.id h.deeds → rs ≡ l.copy.records → IsStanding n u.entries rs
stands_at h l n u r rs is opened node same listed =
    subst (λ (x : UptoData Deed). IsStanding n x.entries rs) (sym same) (record {
      opening = h.opening;
      sound = is.sound;
      legal = is.legal;
      node_is = sym node;
      records_is = listed ∙ ap (λ (c : Copy). c.records) (open_as (standing h).copy (standing h).shut l is.replayed opened);
    })

-- and since its beginning
pub stands_since : (h : JournalData) (l : Logged) (n : ℕ) (u : UptoData Deed) (r : chronicle.Line) (rs : List Record) (b : UptoData Copy) → IsHeld h l → l.closed ≡ false → n ≡ h.opening.id → u ≡ upto r h.opening.id h.deeds
    → rs ≡ l.copy.records → b ≡ upto r h.opening.id (h.opening ∷ []) → IsStandingSince b.entries n u.entries rs
stands_since h l n u r rs b is opened node same listed began =
    subst (λ (x : UptoData Deed). IsStandingSince b.entries n x.entries rs) (sym same) (record {
      opening = h.opening;
      is = ap (λ (x : UptoData Copy). x.entries) began;
      sound = is.sound;
      legal = is.legal;
      node_is = sym node;
      records_is = listed ∙ ap (λ (c : Copy). c.records) (open_as (standing h).copy (standing h).shut l is.replayed opened);
    })

-- it may be published
pub may_show : (r : chronicle.Line) (c : Copy) (p : Line) (s : Showing) → IsPublishedOf c p → p.top.registry ≡ registry_of r → IsShownBy r c s → GoesOn (listing p.book s) p.top
may_show r c p s is top shown = record {
  cell = sym is.cell;
  registry = ap registry_of shown.registry ∙ sym top;
  mapping = shown.mapping ∙ sym is.mapping;
  records = subst (λ rs. StartsWith rs p.top.records) (sym shown.records) is.records;
}

shown_published : (r : chronicle.Line) (c : Copy) (p : Line) (history : List Listing) (s : Showing) → IsShownBy r c s → p ≡ line_behind p.book history (listing p.book s) → IsPublishedOf c p
shown_published r c p history s shown is = let top : p.top ≡ listing p.book s = ap (λ (x : Line). x.top) is in record {
  cell = ap (λ (l : Listing). l.cell) top;
  mapping = ap (λ (l : Listing). l.mapping) top ∙ shown.mapping;
  records = ([], sym shown.records ∙ (ap (λ (l : Listing). l.records) (sym top) ∙ sym (append-nil p.top.records)));
  shown = subst (λ (x : Line). GoesOn x.top x.shown.listing) (sym is) (self-GoesOn (listing p.book s));
}

pub begun_published : (r : chronicle.Line) (m : MappingData) (c : Copy) (p : Line) (s : Showing) → IsShownBy r c s → c.mapping ≡ m → p ≡ line p.book (listing p.book s) → IsPublishedOf c p × IsListedIn r m p.top
begun_published r m c p s shown under is = (
  shown_published r c p [] s shown is,
  record {
    registry = ap (λ (x : Line). x.top.registry) is ∙ ap registry_of shown.registry;
    mapping = ap (λ (x : Line). x.top.mapping) is ∙ (shown.mapping ∙ under);
  },
)

-- the copy is under the mapping of what it shows
pub is_under : (l : chronicle.Line) (m : MappingData) (c : Copy) (p : Line) → IsPublishedOf c p → IsListedIn l m p.top → c.mapping ≡ m
is_under l m c p is was = sym is.mapping ∙ was.mapping

-- after it was published, or refused
still_published : {A E : Type 0} (l : chronicle.Line) (c : Copy) (old new : Line) (s : Showing) (r : Result A E) → IsPublishedOf c old → old.top.registry ≡ registry_of l → IsShownBy l c s → new.book ≡ old.book
    → OnOk r (new ≡ line_behind old.book old.history (listing old.book s)) → OnErr r (new.shown ≡ old.shown) → OnErr r ((new.top ≡ old.top) ⊎ (new.top ≡ listing old.book s)) → IsPublishedOf c new
still_published l c old new s (Ok x) is was shown book ok err top =
    shown_published l c new old.history s shown (ok ∙ ap (λ b. line_behind b old.history (listing b s)) (sym book))
still_published l c old new s (Err e) is was shown book ok err top =
    let on : GoesOn (listing old.book s) old.top = may_show l c old s is was shown in
    ⊎_elim (λ same. record {
      cell = ap (λ (l : Listing). l.cell) same ∙ (is.cell ∙ ap cell_of (sym book));
      mapping = ap (λ (l : Listing). l.mapping) same ∙ is.mapping;
      records = subst (λ (l : Listing). StartsWith c.records l.records) (sym same) is.records;
      shown = subst (λ (p : Published). GoesOn new.top p.listing) (sym err) (subst (λ (l : Listing). GoesOn l old.shown.listing) (sym same) is.shown);
    })
    (λ next. record {
      cell = ap (λ (l : Listing). l.cell) next ∙ ap cell_of (sym book);
      mapping = ap (λ (l : Listing). l.mapping) next ∙ shown.mapping;
      records = ([], sym shown.records ∙ (ap (λ (l : Listing). l.records) (sym next) ∙ sym (append-nil new.top.records)));
      shown = subst (λ (p : Published). GoesOn new.top p.listing) (sym err) (subst (λ (l : Listing). GoesOn l old.shown.listing) (sym next) (trans-GoesOn old.shown.listing old.top (listing old.book s) is.shown on));
    }) top

still_registered : {A E : Type 0} (l : chronicle.Line) (c : Copy) (old new : Line) (s : Showing) (r : Result A E) → old.top.registry ≡ registry_of l → IsShownBy l c s
    → OnOk r (new ≡ line_behind old.book old.history (listing old.book s)) → OnErr r ((new.top ≡ old.top) ⊎ (new.top ≡ listing old.book s)) → new.top.registry ≡ registry_of l
still_registered l c old new s (Ok x) was shown ok top = ap (λ (p : Line). p.top.registry) ok ∙ ap registry_of shown.registry
still_registered l c old new s (Err e) was shown ok top = ⊎_elim (λ same. ap (λ (x : Listing). x.registry) same ∙ was) (λ next. ap (λ (x : Listing). x.registry) next ∙ ap registry_of shown.registry) top

pub still_shown : {A E : Type 0} (l : chronicle.Line) (m : MappingData) (c : Copy) (old new : Line) (s : Showing) (r : Result A E) → IsPublishedOf c old → IsListedIn l m old.top → IsShownBy l c s → new.book ≡ old.book
    → OnOk r (new ≡ line_behind old.book old.history (listing old.book s)) → OnErr r (new.shown ≡ old.shown) → OnErr r ((new.top ≡ old.top) ⊎ (new.top ≡ listing old.book s)) → IsPublishedOf c new × IsListedIn l m new.top
still_shown l m c old new s r is was shown book ok err top =
    let now : IsPublishedOf c new = still_published l c old new s r is was.registry shown book ok err top in
    (now, record { registry = still_registered l c old new s r was.registry shown ok top; mapping = now.mapping ∙ (sym is.mapping ∙ was.mapping) })

pub whole_after : {A E : Type 0} (l : chronicle.Line) (c : CellData) (old : Line) (s : Showing) (r : Result A E) → IsShownBy l (standing c.journal).copy s → OnOk r (c.line ≡ line_behind old.book old.history (listing old.book s)) → OnOk r (IsAllShown c)
whole_after l c old s (Ok x) shown is = record {
  mapping = ap (λ (p : Line). p.shown.listing.mapping) is ∙ shown.mapping;
  records = ap (λ (p : Line). p.shown.listing.records) is ∙ shown.records;
}
whole_after l c old s (Err e) shown is = tt

-- what a cell shows that was just made
pub begun_all : (l : chronicle.Line) (h : JournalData) (p : Line) (s : Showing) → IsShownBy l (standing h).copy s → p ≡ line p.book (listing p.book s) → IsBegun h (record { journal = h; line = p })
begun_all l h p s shown is = record {
  journal = refl;
  whole = record { mapping = ap (λ (x : Line). x.shown.listing.mapping) is ∙ shown.mapping; records = ap (λ (x : Line). x.shown.listing.records) is ∙ shown.records };
}
