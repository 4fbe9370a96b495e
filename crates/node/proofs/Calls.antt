-- What a call leaves.
use Rattle.std.proofs.lemmas.List.{length_push}
use Rattle.std.proofs.Common.{◌≡◌, ℕ, suc, ◌+◌, arith, Bool, false, List, [], ◌∷◌, ◌++◌, length, refl, sym, ap, subst, ◌∙◌, Result, Ok, Err, IfErr}
use Rattle.std.proofs.lemmas.Result.{IfOk-weaker, IfErr-weaker}
use Rattle.std.specs.Prelude.{Some, slice_get, IfOk, IsOk, is_ok}
use Rattle.translog.specs.Kept.{kept as kept_in}
use Rattle.replica.specs.declared.fault.CopyFault.{CopyFault}
use Rattle.replica.specs.declared.output.Output.{Output}
use Rattle.replica.specs.declared.input.Input.{Input}
use Rattle.replica.specs.Copy.{Copy}
use Rattle.replica.specs.Logged.{Logged, IsLogged}
use Rattle.journal.specs.declared.journal.Deed.{Deed}
use Rattle.journal.specs.Journal.{Standing, IsLegal, IsLegalAt, after, next, open_at}
use Rattle.node.specs.declared.fault.NodeFault.{NodeFault}
use Rattle.node.specs.declared.fault.NodeFault.TheVariants.{NoMemory, NoSeat, Copy as Refused, Stray, Forgotten}
use Rattle.node.specs.Entry.{Receipt, IsEntry, IsJournalOf}
use Rattle.node.specs.declared.telling.Entered.{Entered}
use Rattle.node.specs.declared.telling.Told.{Told}
use Rattle.node.specs.Passes.{PassData}
use Rattle.chronicle.specs.Ledger.{LedgerData, recorded}
use Rattle.node.specs.Held.{JournalData, journal, IsCall, IsHeld, IsRefusal, IsLastOf}
use Rattle.node.specs.Stands.{IsDenied, LastStands}
use Rattle.node.specs.Telling.{IsEntered, IsGivenAs, IsTelling, receipt, given_of}
use Rattle.node.specs.Replay.{IsIdle, IsReplayed, IsStep}
use Rattle.node.proofs.Replays.{replays, idles}

-- the copy after a journal
abbrev after_all : JournalData → Standing
after_all h = after (open_at h.opening) 0 h.deeds

legal_snoc : (s : Standing) (place : ℕ) (deeds : List Deed) (d : Deed) → IsLegal s place deeds → IsLegalAt (after s place deeds) d → IsLegal s place (deeds ++ d ∷ [])
legal_snoc s place [] d h at = (at, tt)
legal_snoc s place (e ∷ deeds) d h at = (h.0, legal_snoc (next s place e) (suc place) deeds d h.1 at)

-- after one entry more
replayed_snoc : (s : Standing) (place : ℕ) (deeds : List Deed) (d : Deed) (new : Logged) → ((at : ℕ) → IsReplayed (next (after s place deeds) at d) new) → IsReplayed (after s place (deeds ++ d ∷ [])) new
replayed_snoc s place [] d new h = h place
replayed_snoc s place (e ∷ deeds) d new h = replayed_snoc (next s place e) (suc place) deeds d new h

-- ---- the ledger of a journal

pub ready : (r : LedgerData Deed) (kept : Bool) (entries : List Deed) (opening : Copy) → r.kept ≡ kept → r.entries ≡ entries → journal kept opening entries ≡ journal r.kept opening r.entries
ready r kept entries opening k e = ap (λ (b : Bool). journal b opening entries) (sym k) ∙ ap (λ (es : List Deed). journal r.kept opening es) (sym e)

-- with one entry more
pub grown : (r q : LedgerData Deed) (kept : Bool) (entries : List Deed) (opening : Copy) (d : Deed) → r.kept ≡ kept → r.entries ≡ entries → q ≡ recorded r.line r.kept false (r.entries ++ d ∷ [])
    → journal q.kept opening q.entries ≡ record (journal kept opening entries) { deeds = entries ++ d ∷ [] }
grown r q kept entries opening d k e more =
    ap (λ (l : LedgerData Deed). journal l.kept opening l.entries) more ∙ ap (λ (b : Bool). journal b opening (r.entries ++ d ∷ [])) k ∙ ap (λ (es : List Deed). journal kept opening (es ++ d ∷ [])) e

-- ---- what it tells

pub journal_heard : (h : JournalData) (c : Logged) (number : ℕ) (deeds : List Deed) → IsHeld h c → number ≡ h.opening.id → deeds ≡ h.deeds → IsJournalOf number deeds
journal_heard h c number deeds is same entries = record {
  opening = h.opening;
  sound = is.sound;
  legal = subst (λ (ds : List Deed). IsLegal (open_at h.opening) 0 ds) (sym entries) is.legal;
  node_is = sym same;
}

-- without an entry there is none
pub none_heard : (deeds : List Deed) → length deeds ≡ 0 → deeds ≡ []
none_heard [] e = refl
none_heard (d ∷ ds) e = absurd (omega (arith, e))

-- ---- a step

-- a step is one entry more
pub held_step : (h : JournalData) (d : Deed) (old new : Logged) → IsHeld h old → IsLogged old → IsStep old new d.input d.answer
    → IsHeld (record h { deeds = h.deeds ++ d ∷ [] }) new × IsLegalAt (after (open_at h.opening) 0 h.deeds) d
held_step h d old new is logged step =
    let both : (at : ℕ) → IsLegalAt (after (open_at h.opening) 0 h.deeds) d × IsReplayed (next (after (open_at h.opening) 0 h.deeds) at d) new =
    λ at. replays (after (open_at h.opening) 0 h.deeds) at d old new is.replayed logged step in (
      record {
        sound = is.sound;
        legal = legal_snoc (open_at h.opening) 0 h.deeds d is.legal (both 0).0;
        replayed = replayed_snoc (open_at h.opening) 0 h.deeds d new (λ at. (both at).1);
      },
      (both 0).0,
    )

-- nothing was done
pub held_same : (h : JournalData) (old new : Logged) → IsHeld h old → IsIdle old new → IsHeld h new
held_same h old new is idle = record { sound = is.sound; legal = is.legal; replayed = idles (after (open_at h.opening) 0 h.deeds) old new is.replayed idle }

-- and one of which segments were merged
pub held_merged : (h : JournalData) (old new : Logged) → new ≡ record old { segments = new.segments } → IsHeld h old → IsHeld h new
held_merged h old new rest held = held_same h old new held (record { copy = ap (λ (l : Logged). l.copy) rest; closed = ap (λ (l : Logged). l.closed) rest; records = ap (λ (l : Logged). kept_in l.log) rest })

-- ---- what a call leaves

-- the step's entry is the last one
pub entered : (h new : JournalData) (old after : Logged) (number : ℕ) (asked : Input) (t : Told) (e : Entered) → IsHeld h old → IsLogged old → IsTelling old after number asked t
    → new ≡ record h { deeds = h.deeds ++ t.own ∷ [] } → e ≡ record { place = length h.deeds; kept = t.kept; given = t.given } → IsHeld new after × IsEntered h new number asked e
entered h new old after number asked t e is logged tells journal same =
    let own = tells.told.own in
    let step : IsStep old after t.own.input t.own.answer = subst (λ (i : Input). IsStep old after i t.own.answer) (sym (ap (λ (d : Deed). d.input) own)) tells.step in
    let both = held_step h t.own old after is logged step in
    let kept : t.kept ≡ t.own = tells.told.kept in
    let all : IsEntered h new number asked (record { place = length h.deeds; kept = t.kept; given = t.given }) = record {
      journal = journal ∙ ap (λ (d : Deed). let x : JournalData = record h { deeds = h.deeds ++ d ∷ [] } in x) (sym kept);
      place = refl;
      pass = ap (λ (d : Deed). d.pass) (kept ∙ own);
      input = ap (λ (d : Deed). d.input) (kept ∙ own);
      given = tells.told.given ∙ ap (λ (d : Deed). given_of d d.answer) (sym kept);
      legal = subst (λ (d : Deed). IsLegalAt (after_all h) d) (sym kept) both.1;
      whole = subst (λ (x : JournalData). IsLegal (open_at x.opening) 0 x.deeds) (sym journal) both.0.legal;
    } in
    (subst (λ (x : JournalData). IsHeld x after) (sym journal) both.0, subst (λ (x : Entered). IsEntered h new number asked x) (sym same) all)

last_there : {X : Type 0} (xs : List X) (x : X) → slice_get (xs ++ x ∷ []) (length xs) ≡ Some x
last_there [] x = refl
last_there (y ∷ ys) x = last_there ys x

pub entered_there : (h new : JournalData) (number : ℕ) (asked : Input) (e : Entered) → IsEntered h new number asked e → slice_get new.deeds e.place ≡ Some e.kept
entered_there h new number asked e is =
    subst (λ n. slice_get new.deeds n ≡ Some e.kept) (sym is.place) (subst (λ ds. slice_get ds (length h.deeds) ≡ Some e.kept) (sym (ap (λ (x : JournalData). x.deeds) is.journal)) (last_there h.deeds e.kept))

pub entered_last_place : (h new : JournalData) (number : ℕ) (asked : Input) (e : Entered) → IsEntered h new number asked e → e.place + 1 ≡ length new.deeds
entered_last_place h new number asked e is =
    let more : new.deeds ≡ h.deeds ++ e.kept ∷ [] = ap (λ (x : JournalData). x.deeds) is.journal in
    omega (arith, is.place, ap length more, length_push h.deeds e.kept)

-- its receipt is that of the last entry of a legal journal
pub entry_of : (h : JournalData) (l : Logged) (node place : ℕ) (d : Deed) → node ≡ h.opening.id → IsHeld h l → place + 1 ≡ length h.deeds → slice_get h.deeds place ≡ Some d → IsEntry (receipt node place d h.deeds)
entry_of h l node place d is held last there = record { journal = record { opening = h.opening; sound = held.sound; legal = held.legal; node_is = sym is }; last = last; stands = there }

pub entered_last : (old new : JournalData) (number : ℕ) (asked : Input) (e : Entered) (r : Receipt) → IsEntered old new number asked e → r ≡ receipt new.opening.id e.place e.kept new.deeds → IsLastOf new r
entered_last old new number asked e r is same = record {
  legal = is.whole;
  node = ap (λ (x : Receipt). x.node) same;
  entries = ap (λ (x : Receipt). x.deeds) same;
  last =
      (old.deeds, ap (λ (x : JournalData). x.deeds) is.journal ∙ ap (λ (d : Deed). old.deeds ++ d ∷ []) (sym (ap (λ (x : Receipt). x.deed) same)), ap (λ (x : Receipt). x.place) same ∙ is.place);
}

-- a call has its receipt, which is the last of the pass
pub called : (old new : JournalData) (p q : PassData) (asked : Input) (e : Entered) (r : Receipt) → IsEntered old new p.number asked e → r ≡ receipt new.opening.id e.place e.kept new.deeds → q ≡ record p { receipts = p.receipts ++ r ∷ [] }
    → IsCall old new p q asked r
called old new p q asked e r is same pass =
    let journal : new ≡ record old { deeds = old.deeds ++ e.kept ∷ [] } = is.journal in
    let deed : r.deed ≡ e.kept = ap (λ (x : Receipt). x.deed) same in
    record {
      journal = journal ∙ ap (λ (d : Deed). let x : JournalData = record old { deeds = old.deeds ++ d ∷ [] } in x) (sym deed);
      pass = pass;
      node = ap (λ (x : Receipt). x.node) same ∙ ap (λ (x : JournalData). x.opening.id) journal;
      place = ap (λ (x : Receipt). x.place) same ∙ is.place;
      entries = ap (λ (x : Receipt). x.deeds) same;
      number = ap (λ (d : Deed). d.pass) deed ∙ is.pass;
      asked = ap (λ (d : Deed). d.input) deed ∙ is.input;
      legal = subst (λ (d : Deed). IsLegalAt (after_all old) d) (sym deed) is.legal;
    }

given_kept : (d : Deed) (a : Result Output CopyFault) → IfOk (given_of d a) (λ x. x ≡ d)
given_kept d (Ok output) = refl
given_kept d (Err e) = tt

pub entered_given : (old new : JournalData) (number : ℕ) (asked : Input) (e : Entered) → IsEntered old new number asked e → IfOk e.given (λ d. d ≡ e.kept)
entered_given old new number asked e is = subst (λ (x : Result Deed NodeFault). IfOk x (λ d. d ≡ e.kept)) (sym is.given) (given_kept e.kept e.kept.answer)

made : (d : Deed) (a : Result Output CopyFault) (kept : Receipt) (r : Result Receipt NodeFault) → kept.deed.answer ≡ a → IsGivenAs (given_of d a) kept r → IfOk r (λ x. (x ≡ kept) × IsOk x.deed.answer)
made d (Ok output) kept (Ok r) is given = (given, ap is_ok (ap (λ (x : Receipt). x.deed.answer) given ∙ is))
made d (Ok output) kept (Err f) is given = absurd given
made d (Err e) kept (Ok r) is given = absurd given
made d (Err e) kept (Err f) is given = tt

unmade : (d : Deed) (a : Result Output CopyFault) (kept : Receipt) (r : Result Receipt NodeFault) → kept.deed.answer ≡ a → IsGivenAs (given_of d a) kept r → IfErr r (λ f. (e : CopyFault) × (f ≡ Refused e) × (kept.deed.answer ≡ Err e))
unmade d (Ok output) kept (Ok r) is given = tt
unmade d (Ok output) kept (Err f) is given = absurd given
unmade d (Err e) kept (Ok r) is given = absurd given
unmade d (Err e) kept (Err f) is given = (e, given, is)

-- what a caller gets is the receipt of a call, or the copy's refusal, which is a call too
pub call_made : (old new : JournalData) (p q : PassData) (asked : Input) (e : Entered) (kept : Receipt) (r : Result Receipt NodeFault) → IsEntered old new p.number asked e → kept ≡ receipt new.opening.id e.place e.kept new.deeds
    → q ≡ record p { receipts = p.receipts ++ kept ∷ [] } → IsGivenAs e.given kept r → IfOk r (λ x. IsCall old new p q asked x × IsOk x.deed.answer)
call_made old new p q asked e kept r is same pass given =
    let call : IsCall old new p q asked kept = called old new p q asked e kept is same pass in
    let answer : kept.deed.answer ≡ e.kept.answer = ap (λ (x : Receipt). x.deed.answer) same in
    IfOk-weaker r _ _ (λ x both. (subst (λ (y : Receipt). IsCall old new p q asked y) (sym both.0) call, both.1)) (made e.kept e.kept.answer kept r answer (subst (λ (x : Result Deed NodeFault). IsGivenAs x kept r) is.given given))

refused_as : (old new : JournalData) (p q : PassData) (asked : Input) (kept : Receipt) (f : NodeFault) → IsCall old new p q asked kept → (e : CopyFault) × (f ≡ Refused e) × (kept.deed.answer ≡ Err e) → IsRefusal old new p q asked f
refused_as old new p q asked kept f call why = subst (λ (x : NodeFault). IsRefusal old new p q asked x) (sym why.1) (kept, call, why.2)

pub call_refused : (old new : JournalData) (p q : PassData) (asked : Input) (e : Entered) (kept : Receipt) (r : Result Receipt NodeFault) → IsEntered old new p.number asked e → kept ≡ receipt new.opening.id e.place e.kept new.deeds
    → q ≡ record p { receipts = p.receipts ++ kept ∷ [] } → IsGivenAs e.given kept r → IfErr r (λ f. IsRefusal old new p q asked f)
call_refused old new p q asked e kept r is same pass given =
    let call : IsCall old new p q asked kept = called old new p q asked e kept is same pass in
    let answer : kept.deed.answer ≡ e.kept.answer = ap (λ (x : Receipt). x.deed.answer) same in
    IfErr-weaker r _ _ (λ f why. refused_as old new p q asked kept f call why) (unmade e.kept e.kept.answer kept r answer (subst (λ (x : Result Deed NodeFault). IsGivenAs x kept r) is.given given))

pub call_last : (old new : JournalData) (number : ℕ) (asked : Input) (e : Entered) (kept : Receipt) (r : Result Receipt NodeFault) → IsEntered old new number asked e → kept ≡ receipt new.opening.id e.place e.kept new.deeds → IsGivenAs e.given kept r → IfOk r (IsLastOf new)
call_last old new number asked e kept r is same given =
    let answer : kept.deed.answer ≡ e.kept.answer = ap (λ (x : Receipt). x.deed.answer) same in
    IfOk-weaker r _ _ (λ x both. entered_last old new number asked e x is (both.0 ∙ same)) (made e.kept e.kept.answer kept r answer (subst (λ (x : Result Deed NodeFault). IsGivenAs x kept r) is.given given))

-- ---- a pass that isn't stray

pub denied : (old new : JournalData) (p q : PassData) (asked : Input) (r : Result Receipt NodeFault) → LastStands old p → IfErr r (λ e. IsRefusal old new p q asked e) → IfErr r (λ e. IsDenied old new p q asked e)
denied old new p q asked (Ok x) stands h = tt
denied old new p q asked (Err NoMemory) stands h = h
denied old new p q asked (Err NoSeat) stands h = absurd h
denied old new p q asked (Err (Stray place)) stands h = absurd h
denied old new p q asked (Err (Forgotten place)) stands h = absurd h
denied old new p q asked (Err (Refused e)) stands h = (h, stands)
