-- A journal of the master with one more entry.
use Rattle.std.proofs.Common.{◌≡◌, ◌⊎◌, inl, inr, ℕ, true, false, List, [], ◌∷◌, ◌++◌, Option, Some, None, Result, Ok, Err, IfOk, IfErr, refl, sym, ap, subst, ◌∙◌, true≢false}
use Rattle.std.specs.Prelude.{Bool, IfSome, map}
use Rattle.journal.specs.declared.journal.Ruling.{Ruling}
use Rattle.journal.specs.Lawful.{begins_open}
use Rattle.journal.specs.Rulings.{Ruler, AreLegal, IsLegalRuling, next_ruler, ruled, ruler_after}
use Rattle.doc.specs.Outcome.{Fails}
use Rattle.master.specs.declared.fault.MasterFault.{MasterFault}
use Rattle.master.specs.declared.fault.MasterFault.TheVariants.{OldTerm, NotInSync, IsPrimary, Gone, Log, NoMemory, Full}
use Rattle.master.specs.declared.state.Decision.{Decision}
use Rattle.master.specs.declared.state.Request.{Request}
use Rattle.master.specs.declared.state.State.{State}
use Rattle.master.specs.Decide.{Decided, MasterStep, decision_of, master_step}
use Rattle.master.specs.Fault.{fault_of, is_log}
use Rattle.master.specs.Log.{kept_state}
use Rattle.master.specs.Logged.{Logged, IsClosed, IsDone, IsRefused}
use Rattle.translog.specs.declared.fault.LogFault.{LogFault}
use Rattle.translog.specs.Device.{count_after}
use Rattle.translog.specs.Fault as log
use Rattle.translog.specs.Fault.{Fault}
use Rattle.chronicle.specs.Ledger.{LedgerData, recorded}
use Rattle.ruled.specs.declared.entry.MasterEntry.{MasterEntry}
use Rattle.ruled.specs.declared.entry.MasterEntry.TheVariants.{Opened, Answered}
use Rattle.ruled.specs.Entries.{AreMasters, IsDecided, IsKnown, IsLeading, entries_of, ruling}
use Rattle.ruled.specs.Ruled.{RuledData, IsEntered, IsFound, IsRuled, IsRuling, IsUnasked, IsUnruled, MayKeep, with_entries, with_journal}

pub legal_push : (s : Ruler) (rs : List Ruling) (r : Ruling) → AreLegal s rs → IsLegalRuling (ruler_after s rs) r → AreLegal s (rs ++ r ∷ [])
legal_push s [] r legal last = (last, tt)
legal_push s (x ∷ rs) r legal last = (legal.0, legal_push (next_ruler s x) rs r legal.1 last)

pub after_push : (s : Ruler) (rs : List Ruling) (r : Ruling) → ruler_after s (rs ++ r ∷ []) ≡ next_ruler (ruler_after s rs) r
after_push s [] r = refl
after_push s (x ∷ rs) r = after_push (next_ruler s x) rs r

-- ---- the entries

answered_push : (rs : List Ruling) (r : Ruling) → map (λ x. Answered x) (rs ++ r ∷ []) ≡ map (λ x. Answered x) rs ++ Answered r ∷ []
answered_push [] r = refl
answered_push (x ∷ rs) r = ap (λ (es : List MasterEntry). Answered x ∷ es) (answered_push rs r)

entries_push : (s : State) (rs : List Ruling) (r : Ruling) → entries_of s (rs ++ r ∷ []) ≡ entries_of s rs ++ Answered r ∷ []
entries_push s rs r = ap (λ (es : List MasterEntry). Opened s ∷ es) (answered_push rs r)

-- ---- a legal journal, and the master that it tells of

abbrev pub with_one : RuledData → Ruling → Option Ruling → Logged → RuledData
with_one old r unsure master = with_entries old.kept (old.entries ++ Answered r ∷ []) unsure master

more_ruled : (old : RuledData) (unsure : Option Ruling) (master : Logged) (r : Ruling) → IsRuled old → IsLegalRuling (begins_open old.master.state) r → next_ruler (begins_open old.master.state) r ≡ begins_open master.state
    → master.closed ≡ false → IsRuled (with_one old r unsure master)
more_ruled old unsure master r is legal after now_open = record {
  opening = is.opening;
  rulings = is.rulings ++ r ∷ [];
  are = ap (λ (es : List MasterEntry). es ++ Answered r ∷ []) is.are ∙ sym (entries_push is.opening is.rulings r);
  legal = legal_push (begins_open is.opening) is.rulings r is.legal (subst (λ (s : Ruler). IsLegalRuling s r) (sym is.after) legal);
  after = after_push (begins_open is.opening) is.rulings r ∙ ap (λ (s : Ruler). next_ruler s r) is.after ∙ after;
  shut = λ closed. absurd (true≢false (sym closed ∙ now_open));
}

-- the master has the state that it had, and is open
pub same_ruled : (old : RuledData) (unsure : Option Ruling) (master : Logged) → IsRuled old → master.state ≡ old.master.state → master.closed ≡ false → IsRuled (with_entries old.kept old.entries unsure master)
same_ruled old unsure master is same now_open = record {
  opening = is.opening;
  rulings = is.rulings;
  are = is.are;
  legal = is.legal;
  after = is.after ∙ ap begins_open (sym same);
  shut = λ closed. absurd (true≢false (sym closed ∙ now_open));
}

-- a journal that begins
pub begun_ruled : (kept : Bool) (s : State) (master : Logged) → s ≡ master.state → master.closed ≡ false → IsRuled (with_entries kept (Opened s ∷ []) None master)
begun_ruled kept s master same now_open = record {
  opening = s;
  rulings = [];
  are = refl;
  legal = tt;
  after = ap begins_open same;
  shut = λ closed. absurd (true≢false (sym closed ∙ now_open));
}

-- an entry that was pushed
pub pushed : (l m n : LedgerData MasterEntry) (e : MasterEntry) (unsure : Option Ruling) (master : Logged) → m.kept ≡ l.kept → m.entries ≡ l.entries → n ≡ recorded m.line m.kept false (m.entries ++ e ∷ [])
    → IsRuled (with_entries l.kept (l.entries ++ e ∷ []) unsure master) → IsRuled (with_journal n unsure master)
pushed l m n e unsure master kept same added is =
    let keeps = ap (λ (x : LedgerData MasterEntry). x.kept) added ∙ kept in
    let entries = ap (λ (x : LedgerData MasterEntry). x.entries) added ∙ ap (λ (es : List MasterEntry). es ++ e ∷ []) same in
    subst (λ (b : Bool). IsRuled (with_entries b n.entries unsure master)) (sym keeps) (subst (λ (es : List MasterEntry). IsRuled (with_entries l.kept es unsure master)) (sym entries) is)

-- ---- a decision

abbrev done_with : State → Decision → MasterStep
done_with m d = Ok (record { state = m; decision = d })

abbrev state_kept : State → Result State Fault
state_kept m = Ok m

same_decision : (d e : Decision) (m : State) → decision_of (done_with m d) ≡ Ok e → d ≡ e
same_decision d e m is = cc

ruled_by : (s m : State) (d : Decision) (step : MasterStep) → step ≡ done_with m d → step ≡ done_with (ruled s step) d
ruled_by s m d step is = rw is refl

left_by : (s m : State) (d : Decision) (step : MasterStep) → step ≡ done_with m d → begins_open (ruled s step) ≡ begins_open m
left_by s m d step is = rw is refl

module _ (old : RuledData) (master : Logged) (pass : ℕ) (request : Request) (decision : Decision) (is : IsRuled old) where
  pub made_more : (made : Decision) → IsDone old.master master request made (master_step old.master.state request) → decision_of (master_step old.master.state request) ≡ Ok decision
      → IsRuled (with_one old (ruling pass request (Ok decision)) old.unsure master)
  made_more made done looked =
      let same = same_decision made decision master.state (sym (ap decision_of done.decided) ∙ looked) in
      let step = done.decided ∙ ap (done_with master.state) same in
      more_ruled old old.unsure master (ruling pass request (Ok decision)) is (ruled_by old.master.state master.state decision _ step) (left_by old.master.state master.state decision _ step) done.stays_open

  pub made_same : (made : Decision) → IsDone old.master master request made (master_step old.master.state request) → decision_of (master_step old.master.state request) ≡ Ok decision → decision ≡ made
  made_same made done looked = sym (same_decision made decision master.state (sym (ap decision_of done.decided) ∙ looked))

  -- the log failed to keep it, and has it or not
  found_more : (s : State) → s ≡ old.master.state → (d : Decided) → master_step old.master.state request ≡ Ok d → decision_of (master_step old.master.state request) ≡ Ok decision
      → (kept_state master.log ≡ Ok old.master.state) ⊎ (kept_state master.log ≡ Ok d.state) → MayKeep s master.log (Some (ruling pass request (Ok decision)))
  found_more s same d taken looked (inl kept) = inl (kept ∙ ap state_kept (sym same))
  found_more s same d taken looked (inr kept) =
      let one = same_decision d.decision decision d.state (sym (ap decision_of taken) ∙ looked) in
      let step = taken ∙ ap (done_with d.state) one in
      inr (subst (λ (m : State). IsFound m master.log (ruling pass request (Ok decision))) (sym same) (record {
        legal = ruled_by old.master.state d.state decision _ step;
        left = d.state;
        after = left_by old.master.state d.state decision _ step;
        kept = kept;
      }))

  shut_more : IsClosed old.master master (master_step old.master.state request) → decision_of (master_step old.master.state request) ≡ Ok decision
      → IsRuled (with_entries old.kept old.entries (Some (ruling pass request (Ok decision))) master)
  shut_more closed looked = record {
    opening = is.opening;
    rulings = is.rulings;
    are = is.are;
    legal = is.legal;
    after = is.after ∙ ap begins_open (sym closed.state);
    shut = λ _. found_more master.state closed.state closed.decided closed.is looked closed.log;
  }

  pub refused_ruled : (e : MasterFault) → old.master.closed ≡ false → IsRefused e old.master master (master_step old.master.state request) → decision_of (master_step old.master.state request) ≡ Ok decision
      → IsRuled (with_entries old.kept old.entries (Some (ruling pass request (Ok decision))) master)
  refused_ruled OldTerm now_open refused looked = same_ruled old _ master is refused.same.state (refused.same.closed ∙ now_open)
  refused_ruled NotInSync now_open refused looked = same_ruled old _ master is refused.same.state (refused.same.closed ∙ now_open)
  refused_ruled IsPrimary now_open refused looked = same_ruled old _ master is refused.same.state (refused.same.closed ∙ now_open)
  refused_ruled Gone now_open refused looked = same_ruled old _ master is refused.same.state (refused.same.closed ∙ now_open)
  refused_ruled Full now_open refused looked = same_ruled old _ master is refused.same.state (refused.same.closed ∙ now_open)
  refused_ruled NoMemory now_open refused looked = same_ruled old _ master is refused.1.state (refused.1.closed ∙ now_open)
  refused_ruled (Log f) now_open (cause, inl was) looked = absurd (true≢false (sym was.0 ∙ now_open))
  refused_ruled (Log f) now_open (cause, inr was) looked = shut_more was.1 looked

-- a step that the table takes is refused for its log and for want of memory alone
refuted : (s : MasterStep) (e : MasterFault) (d : Decision) → s ≡ Err e → decision_of s ≡ Ok d → ⊥
refuted s e d is looked = cc

module _ (old new : RuledData) (pass : ℕ) (request : Request) (decision : Decision) (kept : new.kept ≡ old.kept) (entries : new.entries ≡ old.entries) where
  pub refused_unruled : (e : MasterFault) (master : Logged) → IsRefused e old.master master (master_step old.master.state request) → decision_of (master_step old.master.state request) ≡ Ok decision → IsUnruled old new pass request e
  refused_unruled OldTerm master refused looked = absurd (refuted _ _ _ refused.cause looked)
  refused_unruled NotInSync master refused looked = absurd (refuted _ _ _ refused.cause looked)
  refused_unruled IsPrimary master refused looked = absurd (refuted _ _ _ refused.cause looked)
  refused_unruled Gone master refused looked = absurd (refuted _ _ _ refused.cause looked)
  refused_unruled Full master refused looked = absurd (refuted _ _ _ refused.cause looked)
  refused_unruled NoMemory master refused looked = record { kept = kept; entries = inl entries }
  refused_unruled (Log f) master refused looked = record { kept = kept; entries = inl entries }

pub refused_counts : (e : MasterFault) (old new : Logged) (s : MasterStep) → old.closed ≡ false → IsRefused e old new s → new.failures ≡ count_after (is_log e) old.failures
refused_counts OldTerm old new s now_open refused = refused.same.failures
refused_counts NotInSync old new s now_open refused = refused.same.failures
refused_counts IsPrimary old new s now_open refused = refused.same.failures
refused_counts Gone old new s now_open refused = refused.same.failures
refused_counts Full old new s now_open refused = refused.same.failures
refused_counts NoMemory old new s now_open refused = refused.1.failures
refused_counts (Log f) old new s now_open (cause, inl was) = absurd (true≢false (sym was.0 ∙ now_open))
refused_counts (Log f) old new s now_open (cause, inr was) = was.1.counts

-- ---- a refusal of the table

pub of_the_table : (e : MasterFault) (s : MasterStep) → Fails fault_of e (decision_of s) → is_log e ≡ false → (e ≡ NoMemory → ⊥) → (fault_of e ≡ Some e) × (s ≡ Err e)
of_the_table OldTerm (Err f) fails log memory = (refl, cc)
of_the_table OldTerm (Ok d) fails log memory = absurd (cc)
of_the_table NotInSync (Err f) fails log memory = (refl, cc)
of_the_table NotInSync (Ok d) fails log memory = absurd (cc)
of_the_table IsPrimary (Err f) fails log memory = (refl, cc)
of_the_table IsPrimary (Ok d) fails log memory = absurd (cc)
of_the_table Gone (Err f) fails log memory = (refl, cc)
of_the_table Gone (Ok d) fails log memory = absurd (cc)
of_the_table Full (Err f) fails log memory = (refl, cc)
of_the_table Full (Ok d) fails log memory = absurd (cc)
of_the_table NoMemory s fails log memory = absurd (memory refl)
of_the_table (Log f) s fails log memory = absurd (true≢false log)

legal_denial : (s : State) (pass : ℕ) (request : Request) (e : MasterFault) → fault_of e ≡ Some e → master_step s request ≡ Err e → IsLegalRuling (begins_open s) (ruling pass request (Err e))
legal_denial s pass request OldTerm refused cause = cause
legal_denial s pass request NotInSync refused cause = cause
legal_denial s pass request IsPrimary refused cause = cause
legal_denial s pass request Gone refused cause = cause
legal_denial s pass request Full refused cause = cause
legal_denial s pass request NoMemory refused cause = absurd (cc)
legal_denial s pass request (Log f) refused cause = absurd (cc)

pub not_log : (e : MasterFault) → fault_of e ≡ Some e → is_log e ≡ false
not_log OldTerm refused = refl
not_log NotInSync refused = refl
not_log IsPrimary refused = refl
not_log Gone refused = refl
not_log Full refused = refl
not_log NoMemory refused = refl
not_log (Log f) refused = absurd (cc)

pub denied_more : (old : RuledData) (pass : ℕ) (request : Request) (e : MasterFault) → IsRuled old → old.master.closed ≡ false → fault_of e ≡ Some e → master_step old.master.state request ≡ Err e
    → IsRuled (with_one old (ruling pass request (Err e)) old.unsure old.master)
denied_more old pass request e is now_open refused cause =
    more_ruled old old.unsure old.master (ruling pass request (Err e)) is (legal_denial old.master.state pass request e refused cause) (ap (λ b. record { state = old.master.state; closed = b }) (not_log e refused)) now_open

pub denied_unruled : (old new : RuledData) (pass : ℕ) (request : Request) (e : MasterFault) → fault_of e ≡ Some e → IsRuling old new pass request (Err e) → IsUnruled old new pass request e
denied_unruled old new pass request OldTerm refused made = made
denied_unruled old new pass request NotInSync refused made = made
denied_unruled old new pass request IsPrimary refused made = made
denied_unruled old new pass request Gone refused made = made
denied_unruled old new pass request Full refused made = made
denied_unruled old new pass request NoMemory refused made = absurd (cc)
denied_unruled old new pass request (Log f) refused made = absurd (cc)

-- ---- a master that is opened again

kept_there : (s : State) (bytes : List ℕ) (unsure : Option Ruling) → MayKeep s bytes unsure → (m : State) × (kept_state bytes ≡ Ok m)
kept_there s bytes None kept = (s, kept)
kept_there s bytes (Some r) (inl kept) = (s, kept)
kept_there s bytes (Some r) (inr found) = (found.left, found.kept)

no_fault : (e : LogFault) (given : Result State Fault) (m : State) → Fails log.fault_of e given → given ≡ Ok m → log.fault_of e ≡ None
no_fault e given m fails is = elim (log.fault_of e) as (λ o. IfSome o (λ f. given ≡ Err f) → o ≡ None) [ None ↦ λ _. refl | Some f ↦ λ err. absurd (cc) ] fails

-- the log of a closed master keeps a state, so nothing is wrong with its bytes
pub unopened_cause : (old : RuledData) (e : LogFault) → IsRuled old → old.master.closed ≡ true → Fails log.fault_of e (kept_state old.master.log) → log.fault_of e ≡ None
unopened_cause old e is closed fails = let there = kept_there old.master.state old.master.log old.unsure (is.shut closed) in no_fault e (kept_state old.master.log) there.0 fails there.1

keeps_still : (s n : State) (one two : List ℕ) (unsure : Option Ruling) → n ≡ s → kept_state two ≡ kept_state one → MayKeep s one unsure → MayKeep n two unsure
keeps_still s n one two None same kept may = kept ∙ may ∙ ap state_kept (sym same)
keeps_still s n one two (Some r) same kept (inl may) = inl (kept ∙ may ∙ ap state_kept (sym same))
keeps_still s n one two (Some r) same kept (inr found) = inr (subst (λ (m : State). IsFound m two r) (sym same) (record { legal = found.legal; left = found.left; after = found.after; kept = kept ∙ found.kept }))

pub unopened_ruled : (old : RuledData) (master : Logged) → IsRuled old → old.master.closed ≡ true → master.state ≡ old.master.state → kept_state master.log ≡ kept_state old.master.log
    → IsRuled (with_entries old.kept old.entries old.unsure master)
unopened_ruled old master is closed same kept = record {
  opening = is.opening;
  rulings = is.rulings;
  are = is.are;
  legal = is.legal;
  after = is.after ∙ ap begins_open (sym same);
  shut = λ _. keeps_still old.master.state master.state old.master.log master.log old.unsure same kept (is.shut closed);
}

one_state : (given : Result State Fault) (m n : State) → given ≡ Ok m → given ≡ Ok n → n ≡ m
one_state given m n one two = cc

found_there : (s n : State) (bytes : List ℕ) (r : Ruling) → MayKeep s bytes (Some r) → kept_state bytes ≡ Ok n → (n ≡ s → ⊥) → IsLegalRuling (begins_open s) r × (next_ruler (begins_open s) r ≡ begins_open n)
found_there s n bytes r (inl kept) opened other = absurd (other (one_state _ s n kept opened))
found_there s n bytes r (inr found) opened other = (found.legal, found.after ∙ ap begins_open (sym (one_state _ found.left n found.kept opened)))

-- its log has another state: that of the decision which failed
pub found_ruled : (old : RuledData) (master : Logged) (r : Ruling) → IsRuled old → old.master.closed ≡ true → old.unsure ≡ Some r → kept_state old.master.log ≡ Ok master.state → (master.state ≡ old.master.state → ⊥) → master.closed ≡ false
    → IsRuled (with_one old r None master)
found_ruled old master r is closed there opened other now_open =
    let may = subst (λ (o : Option Ruling). MayKeep old.master.state old.master.log o) there (is.shut closed) in
    let found = found_there old.master.state master.state old.master.log r may opened other in
    more_ruled old None master r is found.0 found.1 now_open

pub never_found : (old : RuledData) (master : State) → IsRuled old → old.master.closed ≡ true → old.unsure ≡ None → kept_state old.master.log ≡ Ok master → (master ≡ old.master.state → ⊥) → ⊥
never_found old master is closed there opened other =
    let may : kept_state old.master.log ≡ Ok old.master.state = subst (λ (o : Option Ruling). MayKeep old.master.state old.master.log o) there (is.shut closed) in
    other (one_state _ old.master.state master may opened)

-- ---- one entry after another

before_open : (mid : RuledData) (entries : List MasterEntry) → mid.master.closed ≡ false → (entries ≡ mid.entries) ⊎ IsEntered mid entries → entries ≡ mid.entries
before_open mid entries now_open (inl same) = same
before_open mid entries now_open (inr entered) = absurd (true≢false (sym entered.closed ∙ now_open))

module _ (old mid new : RuledData) (pass : ℕ) (request : Request) (first : IsUnasked old mid) (now_open : mid.master.closed ≡ false) where
  pub ruling_after : (answer : Result Decision MasterFault) → IsRuling mid new pass request answer → IsRuling old new pass request answer
  ruling_after answer made = record {
    kept = made.kept ∙ first.kept;
    before = mid.entries;
    unasked = first.entries;
    entries = made.entries ∙ ap (λ (es : List MasterEntry). es ++ Answered (ruling pass request answer) ∷ []) (before_open mid made.before now_open made.unasked);
  }

  unasked_after : IsUnasked mid new → IsUnasked old new
  unasked_after next = record {
    kept = next.kept ∙ first.kept;
    entries = subst (λ (es : List MasterEntry). (es ≡ old.entries) ⊎ IsEntered old es) (sym (before_open mid new.entries now_open next.entries)) first.entries;
  }

  pub unruled_after : (e : MasterFault) → IsUnruled mid new pass request e → IsUnruled old new pass request e
  unruled_after OldTerm made = ruling_after (Err OldTerm) made
  unruled_after NotInSync made = ruling_after (Err NotInSync) made
  unruled_after IsPrimary made = ruling_after (Err IsPrimary) made
  unruled_after Gone made = ruling_after (Err Gone) made
  unruled_after Full made = ruling_after (Err Full) made
  unruled_after NoMemory next = unasked_after next
  unruled_after (Log f) next = unasked_after next

  pub answered_after : (answer : Result Decision MasterFault) → IfOk answer (λ d. IsRuling mid new pass request (Ok d)) → IfOk answer (λ d. IsRuling old new pass request (Ok d))
  answered_after (Ok d) made = ruling_after (Ok d) made
  answered_after (Err e) made = tt

  pub refused_after : (answer : Result Decision MasterFault) → IfErr answer (IsUnruled mid new pass request) → IfErr answer (IsUnruled old new pass request)
  refused_after (Ok d) made = tt
  refused_after (Err e) made = unruled_after e made

pub unruled_unasked : (old new : RuledData) (pass : ℕ) (request : Request) (e : MasterFault) → fault_of e ≡ None → IsUnasked old new → IsUnruled old new pass request e
unruled_unasked old new pass request OldTerm cause next = absurd (cc)
unruled_unasked old new pass request NotInSync cause next = absurd (cc)
unruled_unasked old new pass request IsPrimary cause next = absurd (cc)
unruled_unasked old new pass request Gone cause next = absurd (cc)
unruled_unasked old new pass request Full cause next = absurd (cc)
unruled_unasked old new pass request NoMemory cause next = next
unruled_unasked old new pass request (Log f) cause next = next

-- ---- what is known of it

nothing : (s : State) (rs : List Ruling) → entries_of s rs ≡ [] → ⊥
nothing s rs none = cc

masters_of : (r : RuledData) → IsRuled r → AreMasters r.entries
masters_of r is = record { opening = is.opening; rulings = is.rulings; are = is.are; legal = is.legal }

-- an entry that was made is the last of a legal journal
pub decided_by : (old new : RuledData) (pass : ℕ) (request : Request) (decision : Decision) → IsRuled new → IsRuling old new pass request (Ok decision) → IsDecided request decision new.entries
decided_by old new pass request decision is made = record {
  before = made.before;
  pass = pass;
  last = made.entries;
  masters = masters_of new is;
}

pub decided_as : (old new : RuledData) (pass : ℕ) (request : Request) (decision : Decision) (past : List MasterEntry) → IsRuled new → IsRuling old new pass request (Ok decision) → past ≡ new.entries → IsDecided request decision past
decided_as old new pass request decision past is made same = subst (λ (es : List MasterEntry). IsDecided request decision es) (sym same) (decided_by old new pass request decision is made)

-- the master is what its journal says
pub known_by : (r : RuledData) → IsRuled r → IsKnown r.entries r.master.state
known_by r is = record {
  opening = is.opening;
  rulings = is.rulings;
  are = is.are;
  legal = is.legal;
  knows = ap (λ (s : Ruler). s.state) is.after;
}

pub known_as : (r : RuledData) (entries : List MasterEntry) (s : State) → IsRuled r → entries ≡ r.entries → s ≡ r.master.state → IsKnown entries s
known_as r entries s is same state = subst (λ (es : List MasterEntry). IsKnown es s) (sym same) (subst (λ (x : State). IsKnown r.entries x) (sym state) (known_by r is))

pub leading_as : (r : RuledData) (entries : List MasterEntry) (copy : ℕ) → IsRuled r → entries ≡ r.entries → copy ≡ r.master.state.primary → IsLeading entries copy
leading_as r entries copy is same leads = record { state = r.master.state; known = known_as r entries r.master.state is same refl; leads = leads }

-- there is an entry
pub some_entry : (r : RuledData) → IsRuled r → r.entries ≡ [] → ⊥
some_entry r is none = nothing is.opening is.rulings (sym is.are ∙ none)
