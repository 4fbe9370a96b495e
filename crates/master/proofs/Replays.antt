-- What the frames of a master's log leave.
use Rattle.std.proofs.Common.{◌≡◌, ℕ, ◌+◌, List, [], ◌∷◌, length, length-append, arith, Some, None, Result, Ok, Err, refl, ap}
use Rattle.std.specs.Prelude.{IfSome}
use Rattle.doc.specs.Outcome.{◌>>=◌, Fails}
use Rattle.translog.specs.declared.fault.LogFault.{LogFault}
use Rattle.translog.specs.Fault.{Fault, damaged, fault_of}
use Rattle.std.specs.List.{flat_map}
use Rattle.translog.specs.Frames.{framed, contents_in}
use Rattle.master.specs.declared.state.State.{State}
use Rattle.master.specs.Entry.{entry_of}
use Rattle.master.specs.Logged.{begun_state}
use Rattle.master.specs.Log.{header, first_state, next_state, or_damaged, replayed, state_of, kept_state}

fails_through : {A : Type 0} (e : LogFault) (r : Result A Fault) (f : A → Result State Fault) → Fails fault_of e r → Fails fault_of e (r >>= f)
fails_through e r f h = elim (fault_of e) as (λ o. IfSome o (λ g. r ≡ Err g) → IfSome o (λ g. (r >>= f) ≡ Err g)) [ None ↦ λ _. tt | Some g ↦ λ is. rw is refl ] h

-- ---- one frame more

pub goes_on : (offset next : ℕ) (m n : State) (content : List ℕ) (contents : List (List ℕ)) → next ≡ offset + (4 + length content) → or_damaged offset (next_state m (entry_of content)) ≡ Ok n
    → replayed next n contents ≡ replayed offset m (content ∷ contents)
unfolding replayed
goes_on offset next m n content contents after taken = rw taken (ap (λ o. replayed o n contents) after)

pub stops : (e : LogFault) (offset : ℕ) (m : State) (content : List ℕ) (contents : List (List ℕ)) → Fails fault_of e (or_damaged offset (next_state m (entry_of content))) → Fails fault_of e (replayed offset m (content ∷ contents))
unfolding replayed
stops e offset m content contents fails = fails_through e _ _ fails

pub ends : (offset : ℕ) (m : State) → replayed offset m [] ≡ Ok m
unfolding replayed
ends offset m = refl

-- ---- the first frame

pub none_begins : state_of [] ≡ Err (damaged 4)
unfolding state_of
none_begins = refl

pub begins : (next : ℕ) (m : State) (content : List ℕ) (contents : List (List ℕ)) → next ≡ 4 + (4 + length content) → or_damaged 4 (first_state (entry_of content)) ≡ Ok m → replayed next m contents ≡ state_of (content ∷ contents)
unfolding state_of
begins next m content contents after taken = rw taken (ap (λ o. replayed o m contents) after)

pub never_begins : (e : LogFault) (content : List ℕ) (contents : List (List ℕ)) → Fails fault_of e (or_damaged 4 (first_state (entry_of content))) → Fails fault_of e (state_of (content ∷ contents))
unfolding state_of
never_begins e content contents fails = fails_through e _ _ fails

-- ---- offsets

pub frames_left : (content : List ℕ) (contents : List (List ℕ)) → length (flat_map framed (content ∷ contents)) ≡ 4 + length content + length (flat_map framed contents)
frames_left content contents = let joined = length-append content (flat_map framed contents) in omega arith

-- ---- what a log keeps

pub fails_kept : (e : LogFault) (front bytes : List ℕ) → front ≡ header → Fails fault_of e (contents_in front bytes) → Fails fault_of e (kept_state bytes)
unfolding kept_state
fails_kept e front bytes same fails = fails_through e _ _ (rw same at fails)

pub found_kept : (front bytes : List ℕ) (contents : List (List ℕ)) → front ≡ header → contents_in front bytes ≡ Ok contents → kept_state bytes ≡ state_of contents
unfolding kept_state
found_kept front bytes contents same found = rw (rw same at found) refl

pub fails_begun : (e : LogFault) (n : ℕ) (front bytes : List ℕ) → front ≡ header → Fails fault_of e (contents_in front bytes) → Fails fault_of e (begun_state n bytes)
unfolding begun_state
fails_begun e n front bytes same fails = fails_through e _ _ (rw same at fails)
