-- What an accepted request leaves, and its entry in the log.
use Rattle.std.proofs.Common.{◌≡◌, ◌<◌, ◌≤◌, ◌+◌, ◌^◌, ◌⊎◌, inl, inr, ℕ, Bool, true, false, not, ◌==◌, List, [], ◌∷◌, ◌++◌, length, take, if◌then◌else◌, Option, Some, None, Result, Ok, Err, refl, sym, ap, subst, ◌∙◌, append_assoc, append-nil, true≢false, arith}
use Rattle.std.specs.List.{flat_map}
use Rattle.std.proofs.lemmas.Bool.{cases_lt}
use Rattle.std.proofs.lemmas.Bool.Decides.{nat_tests}
use Rattle.std.proofs.lemmas.Grind.{flat_map-append}
use Rattle.std.proofs.lemmas.List.{take_all}
use Rattle.std.specs.Prelude.{◌≢◌, IfOk, IfErr, OnOk, OnErr}
use Rattle.doc.specs.Outcome.{◌>>=◌, Gives}
use Rattle.op.specs.Ids.{has, with}
use Rattle.translog.specs.Device.{AddsFront, count_after}
use Rattle.translog.specs.declared.fault.LogFault.{LogFault}
use Rattle.translog.specs.Fault.{errs_with, fault_of, is_device}
use Rattle.translog.specs.Frames.{framed, contents_in, AreContents, IsLog, IsUnopened, LosesNothing, stays}
use Rattle.translog.proofs.FramesLaws.{contents_in_log, contents_stay, whole_log, torn_frame}
use Rattle.op.specs.declared.message.Msg.{Msg}
use Rattle.master.specs.declared.entry.Entry.{Entry}
use Rattle.master.specs.declared.fault.MasterFault.{MasterFault}
use Rattle.master.specs.declared.entry.Entry.TheVariants as enters
use Rattle.master.specs.declared.entry.Entry.TheVariants.{Begin, Add, Remove}
use Rattle.master.specs.declared.fault.MasterFault.TheVariants.{Log}
use Rattle.translog.specs.declared.fault.LogFault.TheVariants.{Device}
use Rattle.master.specs.declared.state.State.{State}
use Rattle.master.specs.declared.state.Request.{Request}
use Rattle.master.specs.declared.state.Request.TheVariants.{Promote, Allocate, Synced, Fail}
use Rattle.master.specs.Decide.{Decided, MasterStep, unless, decides, master_step}
use Rattle.master.specs.Entry.{entry_of, spelled, entry_for}
use Rattle.master.specs.Log.{header, first_state, next_state, or_damaged, replayed, state_of, kept_state}
use Rattle.master.specs.Logged.{Logged, IsLogOf, IsMaster, IsDone, IsRefused, IsUnbegun, begun_state, frame_for}
use Rattle.master.specs.State.{IsSound, begun}
use Rattle.master.proofs.Orders.{with-there}
use Rattle.master.proofs.Replays.{found_kept}

-- ---- a request that the table takes

-- no fault of the list holds of an accepted step
taken_step : (fs : List (Bool × MasterFault)) (s : MasterStep) (d : Decided) → unless fs s ≡ Ok d → s ≡ Ok d
unfolding unless
taken_step [] s d is = is
taken_step (f ∷ fs) s d is = elim f.0 as (λ b. (if b then Err f.1 else unless fs s) ≡ Ok d → s ≡ Ok d) [ true ↦ λ e. absurd (cc) | false ↦ λ e. taken_step fs s d e ] is

first_passes : (f : Bool × MasterFault) (fs : List (Bool × MasterFault)) (s : MasterStep) (d : Decided) → unless (f ∷ fs) s ≡ Ok d → f.0 ≡ false
unfolding unless
first_passes f fs s d is = elim f.0 as (λ b. (if b then Err f.1 else unless fs s) ≡ Ok d → b ≡ false) [ true ↦ λ e. absurd (cc) | false ↦ λ _. refl ] is

same_number : (a b : ℕ) → not (a == b) ≡ false → a ≡ b
same_number a b is = grind (arith, nat_tests, is)

-- its entry says the same in the term of the master
pub entry_takes : (m : State) (request : Request) (d : Decided) → master_step m request ≡ Ok d → next_state m (Some (entry_for request)) ≡ Some d.state
entry_takes m (Promote id) d is = rw is refl
entry_takes m Allocate d is = rw is refl
entry_takes m (Synced term id) d is =
    let now : term ≡ m.term = same_number term m.term (first_passes _ _ _ d is) in
    let again : master_step m (Synced m.term id) ≡ Ok d = subst (λ t. master_step m (Synced t id) ≡ Ok d) now is in
    rw again refl
entry_takes m (Fail term id) d is =
    let now : term ≡ m.term = same_number term m.term (first_passes _ _ _ d is) in
    let again : master_step m (Fail m.term id) ≡ Ok d = subst (λ t. master_step m (Fail t id) ≡ Ok d) now is in
    rw again refl

abbrev taken : Decided → MasterStep
taken x = Ok x

from_ok : (x d : Decided) → taken x ≡ Ok d → d ≡ x
from_ok x d is = cc

never_repeated : (m : State) (given : Option ℕ) (sent : Option Msg) (d : Decided) → decides m given sent false ≡ Ok d → d.decision.repeated ≡ true → ⊥
never_repeated m given sent d is again = true≢false (sym again ∙ ap (λ (e : Decided). e.decision.repeated) (from_ok _ d is))

-- a repeated one changes nothing
pub repeated_same : (m : State) (request : Request) (d : Decided) → IsSound m → master_step m request ≡ Ok d → d.decision.repeated ≡ true → d.state ≡ m
repeated_same m (Promote id) d sound is again = absurd (never_repeated _ _ _ d (taken_step _ _ d is) again)
repeated_same m Allocate d sound is again = absurd (never_repeated _ _ _ d (taken_step _ _ d is) again)
repeated_same m (Synced term id) d sound is again =
    let step : decides (record m { in_sync = with m.in_sync id }) None None (has m.in_sync id) ≡ Ok d = taken_step _ _ d is in
    let same = from_ok _ d step in
    let there : has m.in_sync id ≡ true = sym (ap (λ (e : Decided). e.decision.repeated) same) ∙ again in
    let state : d.state ≡ record m { in_sync = with m.in_sync id } = ap (λ (e : Decided). e.state) same in
    state ∙ ap (λ (ns : List ℕ). record m { in_sync = ns }) (with-there m.in_sync id sound.order there)
repeated_same m (Fail term id) d sound is again = absurd (never_repeated _ _ _ d (taken_step _ _ d is) again)

-- ---- one entry more in the log

replayed-push : (offset : ℕ) (m k n : State) (cs : List (List ℕ)) (content : List ℕ) → replayed offset m cs ≡ Ok k → next_state k (entry_of content) ≡ Some n → replayed offset m (cs ++ content ∷ []) ≡ Ok n
unfolding replayed
replayed-push offset m k n [] content is takes = let same : m ≡ k = cc in let here : next_state m (entry_of content) ≡ Some n = ap (λ x. next_state x (entry_of content)) same ∙ takes in rw here refl
replayed-push offset m k n (c ∷ cs) content is takes = elim (next_state m (entry_of c)) as (λ o. (or_damaged offset o >>= λ j. replayed (offset + (4 + length c)) j cs) ≡ Ok k → (or_damaged offset o >>= λ j. replayed (offset + (4 + length c)) j (cs ++ content ∷ [])) ≡ Ok n) [
  | None ↦ λ e. absurd (cc)
  | Some j ↦ λ e. replayed-push (offset + (4 + length c)) j k n cs content e takes
] is

state_of-push : (cs : List (List ℕ)) (m n : State) (content : List ℕ) → state_of cs ≡ Ok m → next_state m (entry_of content) ≡ Some n → state_of (cs ++ content ∷ []) ≡ Ok n
unfolding state_of
state_of-push [] m n content is takes = absurd (cc)
state_of-push (c ∷ cs) m n content is takes = elim (or_damaged 4 (first_state (entry_of c))) as (λ r. (r >>= λ j. replayed (4 + (4 + length c)) j cs) ≡ Ok m → (r >>= λ j. replayed (4 + (4 + length c)) j (cs ++ content ∷ [])) ≡ Ok n) [
  | Ok j ↦ λ e. replayed-push (4 + (4 + length c)) j m n cs content e takes
  | Err f ↦ λ e. absurd (cc)
] is

contents-push : (cs : List (List ℕ)) (c : List ℕ) → AreContents cs → length c < 2 ^ 32 → AreContents (cs ++ c ∷ [])
contents-push [] c small lt = (lt, tt)
contents-push (d ∷ ds) c small lt = (small.0, contents-push ds c small.1 lt)

pub frame_more : (bytes : List ℕ) (cs : List (List ℕ)) (c : List ℕ) → IsLog header bytes cs → length c < 2 ^ 32 → IsLog header (bytes ++ framed c) (cs ++ c ∷ [])
frame_more bytes cs c log lt =
    let frames : flat_map framed (cs ++ c ∷ []) ≡ flat_map framed cs ++ framed c = flat_map-append framed cs (c ∷ []) ∙ ap (λ l. flat_map framed cs ++ l) (append-nil (framed c)) in
    record {
      whole = ap (λ l. l ++ framed c) log.whole ∙ append_assoc header (flat_map framed cs) (framed c) ∙ ap (λ l. header ++ l) (sym frames);
      small = contents-push cs c log.small lt;
    }

-- what a log keeps where nothing of it is lost
pub kept_stays : (old new : List ℕ) → LosesNothing header old new → kept_state new ≡ kept_state old
unfolding kept_state
kept_stays old new left = rw (contents_stay header old new refl left) refl

-- what a log of whole frames keeps
pub kept_log : (bytes : List ℕ) (m : State) → IsLogOf bytes m → kept_state bytes ≡ Ok m
kept_log bytes m log = found_kept header bytes log.contents refl (ap (contents_in header) log.frames.whole ∙ whole_log header log.contents refl log.frames.small) ∙ log.state

-- a log keeps one state
pub same_kept : (bytes : List ℕ) (m n : State) → kept_state bytes ≡ Ok m → kept_state bytes ≡ Ok n → n ≡ m
same_kept bytes m n one two = cc

module _ (bytes : List ℕ) (m : State) (request : Request) (d : Decided) (log : IsLogOf bytes m) (is : master_step m request ≡ Ok d)
    (reads : entry_of (spelled (entry_for request)) ≡ Some (entry_for request)) (small : length (spelled (entry_for request)) < 2 ^ 32) where
  content : List ℕ
  content = spelled (entry_for request)

  takes : next_state m (entry_of (spelled (entry_for request))) ≡ Some d.state
  takes = ap (next_state m) reads ∙ entry_takes m request d is

  pub entry_more : IsLogOf (bytes ++ frame_for (entry_for request)) d.state
  entry_more = record {
    contents = log.contents ++ spelled (entry_for request) ∷ [];
    frames = frame_more bytes log.contents (spelled (entry_for request)) log.frames small;
    state = state_of-push log.contents m d.state (spelled (entry_for request)) log.state takes;
  }

  kept_whole : (k : ℕ) → 4 + length (spelled (entry_for request)) ≤ k → kept_state (bytes ++ take k (frame_for (entry_for request))) ≡ Ok d.state
  kept_whole k le = ap (λ l. kept_state (bytes ++ l)) (take_all k (frame_for (entry_for request)) (omega (arith, le))) ∙ kept_log (bytes ++ frame_for (entry_for request)) d.state entry_more

  -- a front of its frame leaves what was kept, or all of it what the request leaves
  pub front_kept : (new : List ℕ) → AddsFront bytes (frame_for (entry_for request)) new → (kept_state new ≡ Ok m) ⊎ (kept_state new ≡ Ok d.state)
  front_kept new added =
      elim (cases_lt added.0 (4 + length (spelled (entry_for request)))) [
        | inl lt ↦ inl (ap kept_state added.1 ∙ torn_log lt)
        | inr le ↦ inr (ap kept_state added.1 ∙ kept_whole added.0 le)
      ]
    where
      torn_log : added.0 < 4 + length (spelled (entry_for request)) → kept_state (bytes ++ take added.0 (frame_for (entry_for request))) ≡ Ok m
      torn_log lt = ap (λ l. kept_state (l ++ take added.0 (frame_for (entry_for request)))) log.frames.whole ∙ found_kept header _ log.contents refl (contents_in_log header log.contents (take added.0 (frame_for (entry_for request))) refl log.frames.small (torn_frame (spelled (entry_for request)) added.0 small lt)) ∙ log.state

-- ---- steps of the master with its log

pub spelled_small : (e : Entry) → length (spelled e) < 2 ^ 32
spelled_small (Begin copies) = omega arith
spelled_small (enters.Promote id) = omega arith
spelled_small enters.Allocate = omega arith
spelled_small (Add id) = omega arith
spelled_small (Remove id) = omega arith

module _ (l : Logged) (front : List ℕ) (request : Request) (d : Decided) (master : IsMaster front l.state l.closed l.log) (now_open : l.closed ≡ false) (is : master_step l.state request ≡ Ok d) where
  pub done_again : d.decision.repeated ≡ true → IsDone l l request d.decision (master_step l.state request)
  done_again again = record {
    was_open = now_open;
    decided = is ∙ ap (λ (m : State). taken (record { state = m; decision = d.decision })) (repeated_same l.state request d master.sound is again);
    stays_open = now_open;
    log = rw again refl;
    failures = refl;
  }

  module _ (reads : entry_of (spelled (entry_for request)) ≡ Some (entry_for request)) where
    pub grows : IsLogOf (l.log ++ frame_for (entry_for request)) d.state
    grows = entry_more l.log l.state request d (master.log now_open) is reads (spelled_small (entry_for request))

    pub fails : (new : List ℕ) (failures room : ℕ) → d.decision.repeated ≡ false → AddsFront l.log (frame_for (entry_for request)) new → failures ≡ count_after true l.failures
        → IsRefused (Log Device) l (record { state = l.state; closed = true; log = new; failures = failures; room = room }) (master_step l.state request)
    fails new failures room once added counts = (
      refl,
      inr (
        now_open,
        record {
          closed = refl;
          state = refl;
          decided = d;
          is = is;
          once = once;
          log = front_kept l.log l.state request d (master.log now_open) is reads (spelled_small (entry_for request)) new added;
          counts = counts;
        },
      ),
    )

-- ---- a new index's log

first_state-of : (n : ℕ) → entry_of (spelled (Begin n)) ≡ Some (Begin n) → state_of (spelled (Begin n) ∷ []) ≡ Ok (begun n)
unfolding state_of replayed
first_state-of n reads = rw reads refl

pub first_log : (bytes : List ℕ) (n : ℕ) → IsLog header bytes [] → entry_of (spelled (Begin n)) ≡ Some (Begin n) → IsLogOf (bytes ++ frame_for (Begin n)) (begun n)
first_log bytes n log reads = record {
  contents = spelled (Begin n) ∷ [];
  frames = frame_more bytes [] (spelled (Begin n)) log (spelled_small (Begin n));
  state = first_state-of n reads;
}

pub no_contents : (front bytes : List ℕ) (contents : List (List ℕ)) → front ≡ header → contents_in front bytes ≡ Ok contents → length contents ≡ 0 → contents_in header bytes ≡ Ok []
no_contents front bytes [] same found none = rw same at found
no_contents front bytes (c ∷ cs) same found none = absurd (omega arith)

pub some_contents : (front bytes : List ℕ) (contents : List (List ℕ)) → front ≡ header → contents_in front bytes ≡ Ok contents → (length contents ≡ 0 → ⊥) → contents_in header bytes ≢ Ok []
some_contents front bytes [] same found some = absurd (some refl)
some_contents front bytes (c ∷ cs) same found some = λ is. let held : contents_in header bytes ≡ Ok (c ∷ cs) = rw same at found in absurd (cc)

pub begun_none : (n : ℕ) (bytes : List ℕ) → contents_in header bytes ≡ Ok [] → begun_state n bytes ≡ Ok (begun n)
unfolding begun_state
begun_none n bytes none = rw none refl

pub begun_some : (n : ℕ) (front bytes : List ℕ) (contents : List (List ℕ)) → front ≡ header → contents_in front bytes ≡ Ok contents → (length contents ≡ 0 → ⊥) → begun_state n bytes ≡ kept_state bytes
unfolding begun_state kept_state
begun_some n front bytes [] same found some = absurd (some refl)
begun_some n front bytes (c ∷ cs) same found some = rw (rw same at found) refl

-- a log that wasn't opened has gained nothing
pub unbegun_unopened : (e : LogFault) (n : ℕ) (old new : List ℕ) (before now : ℕ) → IsUnopened (is_device e) header old new before now → IsUnbegun e n old new before now
unbegun_unopened e n old new before now refused = record {
  mended = new;
  left = refused.left;
  added = (0, sym (append-nil new));
  counts = refused.counts;
  unopened = λ _. refused;
  unfailed = λ _. refl;
}

-- nor has one that wasn't read
pub unbegun_unread : (e : LogFault) (n : ℕ) (old new : List ℕ) (before now : ℕ) → new ≡ old → now ≡ count_after (is_device e) before → IsUnbegun e n old new before now
unbegun_unread e n old new before now held counts = unbegun_unopened e n old new before now (record { same = λ _. held; left = stays held; counts = counts })

unbegun_after : (e : LogFault) (n : ℕ) (old mid new : List ℕ) (before now : ℕ) → contents_in header old ≡ Ok [] → LosesNothing header old mid → AddsFront mid (frame_for (Begin n)) new
    → (is_device e ≡ false → new ≡ mid) → now ≡ count_after (is_device e) before → IsUnbegun e n old new before now
unbegun_after e n old mid new before now none left added unfailed counts = record {
  mended = mid;
  left = left;
  added = added;
  counts = counts;
  unopened = λ some. absurd (some none);
  unfailed = unfailed;
}

pub unbegun_first : (r : Result State LogFault) (n : ℕ) (old mid new : List ℕ) (before between now : ℕ) → contents_in header old ≡ Ok [] → LosesNothing header old mid
    → OnErr r (AddsFront mid (frame_for (Begin n)) new) → IfErr r (λ e. is_device e ≡ false → new ≡ mid) → now ≡ count_after (errs_with is_device r) between → between ≡ before
    → IfErr r (λ e. IsUnbegun e n old new before now)
unbegun_first (Ok m) n old mid new before between now none left added unfailed counts same = tt
unbegun_first (Err e) n old mid new before between now none left added unfailed counts same =
    unbegun_after e n old mid new before now none left added unfailed (counts ∙ ap (count_after (is_device e)) same)

pub unbegun_mended : (e : LogFault) (n : ℕ) (front old mid new : List ℕ) (before between now : ℕ) → IsUnopened (is_device e) front mid new between now → front ≡ header → mid ≡ old → between ≡ before → IsUnbegun e n old new before now
unbegun_mended e n front old mid new before between now refused named held same =
    let here : IsUnopened (is_device e) header mid new between now = subst (λ (x : List ℕ). IsUnopened (is_device e) x mid new between now) named refused in
    let moved : IsUnopened (is_device e) header old new between now = subst (λ (x : List ℕ). IsUnopened (is_device e) header x new between now) held here in
    unbegun_unopened e n old new before now (subst (λ (x : ℕ). IsUnopened (is_device e) header old new x now) same moved)

pub unbegun_opened : (r : Result State LogFault) (n : ℕ) (old mid new : List ℕ) (before between now : ℕ) → IfErr r (λ e. IsUnopened (is_device e) header mid new between now) → mid ≡ old → between ≡ before → IfErr r (λ e. IsUnbegun e n old new before now)
unbegun_opened (Ok m) n old mid new before between now refused held same = tt
unbegun_opened (Err e) n old mid new before between now refused held same = unbegun_mended e n header old mid new before between now refused refl held same

-- what an opening or a first entry leaves, by whether the log had frames
pub first_unless : (r : Result State LogFault) (old new : List ℕ) (n : ℕ) → contents_in header old ≢ Ok [] → OnOk r (contents_in header old ≡ Ok [] → new ≡ header ++ frame_for (Begin n))
first_unless (Ok m) old new n some = λ none. absurd (some none)
first_unless (Err e) old new n some = tt

pub first_after : (r : Result State LogFault) (old new : List ℕ) (n : ℕ) → OnOk r (new ≡ header ++ frame_for (Begin n)) → OnOk r (contents_in header old ≡ Ok [] → new ≡ header ++ frame_for (Begin n))
first_after (Ok m) old new n is = λ _. is
first_after (Err e) old new n is = tt

pub left_unless : (r : Result State LogFault) (old new : List ℕ) → contents_in header old ≡ Ok [] → OnOk r (contents_in header old ≢ Ok [] → LosesNothing header old new)
left_unless (Ok m) old new none = λ some. absurd (some none)
left_unless (Err e) old new none = tt

pub left_after : (r : Result State LogFault) (old mid new : List ℕ) → mid ≡ old → OnOk r (LosesNothing header mid new) → OnOk r (contents_in header old ≢ Ok [] → LosesNothing header old new)
left_after (Ok m) old mid new held left = λ _. subst (λ (x : List ℕ). LosesNothing header x new) held left
left_after (Err e) old mid new held left = tt

pub gives_first : (r : Result State LogFault) (n : ℕ) → IfOk r (λ m. m ≡ begun n) → IfErr r (λ e. fault_of e ≡ None) → Gives fault_of (λ m. m) r (Ok (begun n))
gives_first (Ok m) n is cause = ap (λ (x : State). Ok x) (sym is)
gives_first (Err e) n is cause = rw cause tt
