-- The master with its log.
use Rattle.std.specs.Prelude.{◌≡◌, ◌≢◌, ◌⊎◌, ◌++◌, ℕ, Bool, true, false, List, [], ◌∷◌, Result, Ok, Err}
use Rattle.doc.specs.Outcome.{◌>>=◌}
use Rattle.translog.specs.declared.fault.LogFault.{LogFault}
use Rattle.translog.specs.declared.fault.LogFault.TheVariants.{Device}
use Rattle.translog.specs.Device.{AddsFront, count_after}
use Rattle.translog.specs.Fault.{Fault, is_device}
use Rattle.translog.specs.Frames.{contents_in, framed, IsLog, IsUnopened, LosesNothing}
use Rattle.master.specs.declared.entry.Entry.{Entry}
use Rattle.master.specs.declared.entry.Entry.TheVariants.{Begin}
use Rattle.master.specs.declared.fault.MasterFault.{MasterFault}
use Rattle.master.specs.declared.fault.MasterFault.TheVariants.{OldTerm, NotInSync, IsPrimary, Gone, Log, NoMemory, Full}
use Rattle.master.specs.declared.state.State.{State}
use Rattle.master.specs.declared.state.Request.{Request}
use Rattle.master.specs.declared.state.Decision.{Decision}
use Rattle.master.specs.Decide.{MasterStep, Decided}
use Rattle.master.specs.Entry.{spelled, entry_for}
use Rattle.master.specs.Log.{header, state_of, kept_state}
use Rattle.master.specs.State.{begun, IsSound}

-- the master's state, whether its log has failed, the bytes of the log, how often its device has failed, and the room that was made there
pub record Logged : Type 0 where
  pub state : State
  pub closed : Bool
  pub log : List ℕ
  pub failures : ℕ
  pub room : ℕ

-- the bytes are whole frames, and this state is what they leave
pub record IsLogOf (bytes : List ℕ) (m : State) : Type 0 where
  pub contents : List (List ℕ)
  pub frames : IsLog header bytes contents
  pub state : state_of contents ≡ Ok m

-- the log of a master that isn't closed keeps its state
pub record IsMaster (front : List ℕ) (m : State) (closed : Bool) (bytes : List ℕ) : Type 0 where
  pub header : front ≡ header
  pub sound : IsSound m
  pub log : closed ≡ false → IsLogOf bytes m

-- the frame of an entry
abbrev pub frame_for : Entry → List ℕ
frame_for e = framed (spelled e)

-- the state that a log gives a new index of n copies: that of its frames where it has some
abbrev pub begun_or_kept : ℕ → List (List ℕ) → Result State Fault
begun_or_kept n [] = Ok (begun n)
begun_or_kept n (content ∷ contents) = state_of (content ∷ contents)

unfoldable pub begun_state : ℕ → List ℕ → Result State Fault
begun_state n bytes = contents_in header bytes >>= begun_or_kept n

-- the bytes of a log after a decision: nothing more where it changes nothing
abbrev pub log_after : List ℕ → Request → Bool → List ℕ
log_after bytes request true = bytes
log_after bytes request false = bytes ++ frame_for (entry_for request)

-- a request that is done: the state and the decision are those of the table, and the log has the decision where it changes something
pub record IsDone (old new : Logged) (request : Request) (decision : Decision) (step : MasterStep) : Type 0 where
  pub was_open : old.closed ≡ false
  pub decided : step ≡ Ok (record { state = new.state; decision = decision })
  pub stays_open : new.closed ≡ false
  pub log : new.log ≡ log_after old.log request decision.repeated
  pub failures : new.failures ≡ old.failures

-- the log failed where it was to keep a decision: the master is closed, and its log gives the state of before, or that of the decision
pub record IsClosed (old new : Logged) (step : MasterStep) : Type 0 where
  pub closed : new.closed ≡ true
  pub state : new.state ≡ old.state
  pub decided : Decided
  pub is : step ≡ Ok decided
  pub once : decided.decision.repeated ≡ false
  pub log : (kept_state new.log ≡ Ok old.state) ⊎ (kept_state new.log ≡ Ok decided.state)
  pub counts : new.failures ≡ count_after true old.failures

-- nothing has changed
pub record IsSame (old new : Logged) : Type 0 where
  pub state : new.state ≡ old.state
  pub closed : new.closed ≡ old.closed
  pub log : new.log ≡ old.log
  pub failures : new.failures ≡ old.failures

-- a request that the table refuses
pub record IsRefusedAs (e : MasterFault) (old new : Logged) (step : MasterStep) : Type 0 where
  pub was_open : old.closed ≡ false
  pub cause : step ≡ Err e
  pub same : IsSame old new

-- why a request is refused: the first cause of the table, lack of memory, or the device's failure, after which the master is closed
abbrev pub IsRefused : MasterFault → Logged → Logged → MasterStep → Type 0
IsRefused OldTerm old new step = IsRefusedAs OldTerm old new step
IsRefused NotInSync old new step = IsRefusedAs NotInSync old new step
IsRefused IsPrimary old new step = IsRefusedAs IsPrimary old new step
IsRefused Gone old new step = IsRefusedAs Gone old new step
IsRefused Full old new step = IsRefusedAs Full old new step
IsRefused NoMemory old new step = (old.closed ≡ false) × IsSame old new
IsRefused (Log f) old new step = (f ≡ Device) × (((old.closed ≡ true) × IsSame old new) ⊎ ((old.closed ≡ false) × IsClosed old new step))

-- a new index's log that wasn't begun: nothing of it is lost, a front of the first entry may be there, and a failure is counted; where it isn't one without
-- frames it has gained nothing, and is as after a refused opening; nor has it gained anything where the device didn't fail
pub record IsUnbegun (fault : LogFault) (n : ℕ) (old new : List ℕ) (before now : ℕ) : Type 0 where
  pub mended : List ℕ
  pub left : LosesNothing header old mended
  pub added : AddsFront mended (frame_for (Begin n)) new
  pub counts : now ≡ count_after (is_device fault) before
  pub unopened : contents_in header old ≢ Ok [] → IsUnopened (is_device fault) header old new before now
  pub unfailed : is_device fault ≡ false → new ≡ mended
