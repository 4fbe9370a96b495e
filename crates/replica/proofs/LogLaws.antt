-- What a copy asks of its log.
use Rattle.std.proofs.Common.{◌≡◌, inl, inr, refl, ℕ, Bool, true, false, ◌||◌, List, [], ◌∷◌, ◌++◌, length, sym, ap, subst, ◌∙◌, None, Ok, Err, arith}
use Rattle.std.specs.Prelude.{◌⊎◌, nat_lt, take, Result, IfOk, IfErr, if◌then◌else◌}
use Rattle.doc.specs.Outcome.{Fails, Gives}
use Rattle.op.specs.declared.record.Record.{Record}
use Rattle.op.specs.Format.{frame_spelling}
use Rattle.translog.specs.declared.fault.LogFault.{LogFault}
use Rattle.translog.specs.declared.fault.LogFault.TheVariants.{BadMagic, Damaged, Device, NoMemory, TooLarge}
use Rattle.translog.specs.Fault.{Fault, bad_magic, damaged, too_large, fault_of, is_device}
use Rattle.translog.specs.declared.frames.Torn.{Torn}
use Rattle.translog.specs.Frames.{mended, IsTorn, LosesNothing}
use Rattle.translog.specs.Device.{AddsFront}
use Rattle.translog.specs.Kept.{frames_of, frames_or, has_upgrade, kept, IsTornLog, IsTranslog}
use Rattle.translog.specs.Pieces.{own_header}
use Rattle.translog.proofs.KeptLaws.{whole_kept, kept_not_large, read_whole, translog_stays}
use Rattle.translog.proofs.PieceReading.{reopened}
use Rattle.translog.proofs.PieceWriting.{more_together, torn_more}
use Rattle.engine.specs.Staged.{IsStagedFrom}
use Rattle.replica.specs.declared.fault.CopyFault.{CopyFault}
use Rattle.replica.specs.declared.fault.CopyFault.TheVariants.{Log, NoMemory as OutOfMemory}
use Rattle.replica.specs.declared.output.Output.{Output}
use Rattle.replica.specs.declared.planned.Planned.{Planned}
use Rattle.replica.specs.declared.planned.Reopened.{Reopened}
use Rattle.replica.specs.declared.prepared.Prepared.{Prepared}
use Rattle.replica.specs.declared.prepared.Prepared.TheVariants.{Restarted}
use Rattle.replica.specs.Copy.{Copy}
use Rattle.replica.specs.Fault.{of_log, has_failed, is_log, fault_of as copy_fault}
use Rattle.replica.specs.Logged.{Logged, IsFramed, IsLogged, IsReady, IsUnread, prepared_step, searched}
use Rattle.replica.specs.Planned.{stepped_by}
use Rattle.replica.specs.Searched.{Searched, IsReopeningOf}
use Rattle.replica.specs.Staged.{contents, reopened_by}
use Rattle.replica.specs.Standing.{IsStanding}
use Rattle.replica.specs.Step.{Step, Stepped}

same_frame : (b : Bool) (f g : List ℕ) → (let r : Result (List ℕ) Fault = if b then Err too_large else Ok g in r) ≡ Ok f → f ≡ g
same_frame true f g e = absurd cc
same_frame false f g e = cc

-- what is appended for records of one frame is that frame, and before a first group the upgrade's
pub frame_is : (groups : Bool) (new : List Record) (frame : List ℕ) → frames_or groups new ≡ Ok frame → frame ≡ frames_of groups new
frame_is groups new frame e = same_frame (nat_lt 4294967295 (length (frame_spelling new))) frame (frames_of groups new) e

same_ok : (rs found : List Record) → (let r : Result (List Record) Fault = Ok rs in r) ≡ Ok found → found ≡ rs
same_ok rs found e = cc

pub no_records : (rs : List Record) → length rs ≡ 0 → rs ≡ []
no_records [] none = refl
no_records (r ∷ rs) none = absurd (omega (arith, none))

pub same_records : (bytes : List ℕ) (rs found : List Record) (groups : Bool) → IsTranslog bytes rs groups → kept bytes ≡ Ok found → found ≡ rs
same_records bytes rs found groups log e = same_ok rs found (sym (whole_kept bytes rs groups log) ∙ e)

-- a log of whole frames stays
pub stays_logged : (l : Logged) (new : List ℕ) → IsLogged l → l.closed ≡ false → LosesNothing (own_header l.log) l.log new → new ≡ l.log
stays_logged l new logged opened left = translog_stays l.log new l.copy.records l.groups (logged opened) left

pub stays_translog : (old new : List ℕ) (rs : List Record) (groups : Bool) → IsTranslog old rs groups → LosesNothing (own_header old) old new → IsTranslog new rs groups
stays_translog old new rs groups log left = subst (λ (x : List ℕ). IsTranslog x rs groups) (sym (translog_stays old new rs groups log left)) log

-- the log of an open copy that was read is that of its records still
pub read_logged : (l : Logged) (found : List Record) (torn : Torn) (groups : Bool) → IsLogged l → l.closed ≡ false → IsTornLog l.log found torn groups → kept l.log ≡ Ok found → IsTranslog l.log l.copy.records groups
read_logged l found torn groups logged opened read gives =
    subst (λ (rs : List Record). IsTranslog l.log rs groups) (same_records l.log l.copy.records found l.groups (logged opened) gives) (read_whole l.log l.copy.records found l.groups groups torn (logged opened) read)

-- and so is one that was mended
pub mended_logged : (held old new : List ℕ) (contents : List (List ℕ)) (torn : Torn) (rs : List Record) (groups after : Bool) → held ≡ old → IsTorn (own_header old) old contents torn → new ≡ mended (own_header held) held torn → after ≡ groups
    → IsTranslog held rs groups → IsTranslog new rs after
mended_logged held old new contents torn rs groups after is found made same log =
    let left : LosesNothing (own_header old) old new = subst (λ (x : List ℕ). LosesNothing (own_header old) old x) (sym (made ∙ ap (λ l. mended (own_header l) l torn) is)) found.left in
    subst (λ (b : Bool). IsTranslog new rs b) (sym same) (stays_translog old new rs groups (subst (λ (x : List ℕ). IsTranslog x rs groups) is log) left)

-- a restart is ready once its log was read and mended
pub ready_again : (old mid new : Logged) (rs : List Record) (torn : Torn) (r : Reopened) (output : Output) → mid.log ≡ old.log → IsTornLog old.log rs torn mid.groups → new.log ≡ mended (own_header mid.log) mid.log torn → new.groups ≡ mid.groups
    → searched new ≡ searched mid → IsStagedFrom (contents mid.copy) r.staged → IsStanding (reopened_by mid.copy r) → (reopened_by mid.copy r).records ≡ rs → IsReopeningOf (searched mid) r.staged rs → IsReady new (Restarted r output)
ready_again old mid new rs torn r output held log made same copy staged standing records reopening =
    let whole = reopened old.log mid.log new.log rs torn mid.groups new.groups held log made same in
    subst (λ (s : Searched). IsStagedFrom (contents s.copy) r.staged × IsStanding (reopened_by s.copy r) × IsTranslog new.log (reopened_by s.copy r).records new.groups × IsReopeningOf s r.staged (reopened_by s.copy r).records) (sym copy)
    (staged, standing, subst (λ (l : List Record). IsTranslog new.log l new.groups) (sym records) whole, subst (λ (l : List Record). IsReopeningOf (searched mid) r.staged l) (sym records) reopening)

-- a log with the frame of some records more
pub grown : (l : Logged) (new : List Record) (frame : List ℕ) → IsLogged l → l.closed ≡ false → IsFramed l new frame → IsTranslog (l.log ++ frame) (l.copy.records ++ new) (l.groups || has_upgrade frame)
grown l new frame logged opened framed = rw (frame_is l.groups new frame framed.frame_is) (more_together l.log l.copy.records l.groups new (logged opened) framed.spelt)

-- the same, where the log, the records and whether groups may follow are known by other names
pub grown_by : (inside l : Logged) (new : List Record) (frame log : List ℕ) (rs : List Record) (groups : Bool) → inside ≡ l → IsLogged inside → inside.closed ≡ false → IsFramed l new frame
    → log ≡ inside.log ++ frame → rs ≡ l.copy.records ++ new → groups ≡ (inside.groups || has_upgrade frame) → IsTranslog log rs groups
grown_by inside l new frame log rs groups is logged opened framed added records after =
    let more = grown inside new frame logged opened (subst (λ (x : Logged). IsFramed x new frame) (sym is) framed) in
    let same : rs ≡ inside.copy.records ++ new = records ∙ ap (λ (x : Logged). x.copy.records ++ new) (sym is) in
    rw (added, same, after) more

-- after an append that failed the log keeps what it kept before, or also the new records
pub torn_at : (l : Logged) (held left : List ℕ) (new : List Record) (frame : List ℕ) → held ≡ l.log → IsLogged l → l.closed ≡ false → IsFramed l new frame → AddsFront held frame left
    → (kept left ≡ kept l.log) ⊎ (kept left ≡ Ok (l.copy.records ++ new))
torn_at l held left new frame is logged opened framed added =
    let same : left ≡ l.log ++ take added.0 (frames_of l.groups new) = added.1 ∙ ap (λ (x : List ℕ). x ++ take added.0 frame) is ∙ ap (λ (x : List ℕ). l.log ++ take added.0 x) (frame_is l.groups new frame framed.frame_is) in
    rw same (as_before (kept l.log) l.copy.records _ _ (whole_kept l.log l.copy.records l.groups (logged opened)) (torn_more l.log l.copy.records l.groups new added.0 (logged opened) framed.spelt))
  where
    as_before : (before : Result (List Record) Fault) (rs more : List Record) (now : Result (List Record) Fault) → before ≡ Ok rs → (now ≡ Ok rs) ⊎ (now ≡ Ok more) → (now ≡ before) ⊎ (now ≡ Ok more)
    as_before before rs more now was (inl e) = inl (e ∙ sym was)
    as_before before rs more now was (inr e) = inr e

pub front_at : (old same frame new : List ℕ) → old ≡ same → AddsFront old frame new → AddsFront same frame new
front_at old same frame new is added = (added.0, added.1 ∙ ap (λ (l : List ℕ). l ++ take added.0 frame) is)

-- a log is refused for no other cause
pub unread : (bytes : List ℕ) (f : LogFault) → Fails fault_of f (kept bytes) → IsUnread bytes (of_log f)
unread bytes BadMagic fails = fails
unread bytes (Damaged offset) fails = fails
unread bytes Device fails = tt
unread bytes NoMemory fails = tt
unread bytes TooLarge fails = absurd (kept_not_large bytes fails)

-- a log of records is read, unless memory is wanting or its device fails
pub sound_log : (bytes : List ℕ) (rs : List Record) (groups : Bool) (f : LogFault) → IsTranslog bytes rs groups → Fails fault_of f (kept bytes) → is_device f ≡ false → is_log (of_log f) ≡ false
sound_log bytes rs groups BadMagic log fails other = absurd (let e = sym (whole_kept bytes rs groups log) ∙ fails in cc)
sound_log bytes rs groups (Damaged offset) log fails other = absurd (let e = sym (whole_kept bytes rs groups log) ∙ fails in cc)
sound_log bytes rs groups Device log fails other = absurd cc
sound_log bytes rs groups NoMemory log fails other = refl
sound_log bytes rs groups TooLarge log fails other = refl

-- only a failure of the device is a fault of the log
pub not_log : (f : LogFault) → fault_of f ≡ None → is_device f ≡ false → is_log (of_log f) ≡ false
not_log BadMagic none other = absurd cc
not_log (Damaged offset) none other = absurd cc
not_log Device none other = absurd cc
not_log NoMemory none other = refl
not_log TooLarge none other = absurd cc

-- a torn end is left for want of memory, or by the device
pub unmended : (bytes : List ℕ) (f : LogFault) → fault_of f ≡ None → IsUnread bytes (of_log f)
unmended bytes BadMagic none = absurd cc
unmended bytes (Damaged offset) none = absurd cc
unmended bytes Device none = tt
unmended bytes NoMemory none = tt
unmended bytes TooLarge none = absurd cc

pub cause_of : (f : LogFault) → fault_of f ≡ None → (of_log f ≡ OutOfMemory) ⊎ (of_log f ≡ Log Device)
cause_of BadMagic none = absurd cc
cause_of (Damaged offset) none = absurd cc
cause_of Device none = inr refl
cause_of NoMemory none = inl refl
cause_of TooLarge none = absurd cc

-- whether the device failed is told on
pub failed_as : (f : LogFault) → has_failed (of_log f) ≡ is_device f
failed_as BadMagic = refl
failed_as (Damaged offset) = refl
failed_as Device = refl
failed_as NoMemory = refl
failed_as TooLarge = refl

-- records of one frame are refused for no other fault than that they are too large
is_sound : (b : Bool) (frames : List ℕ) (d : Fault) → (d ≡ too_large → ⊥) → (let r : Result (List ℕ) Fault = if b then Err too_large else Ok frames in r) ≡ Err d → ⊥
is_sound true frames d other e = other cc
is_sound false frames d other e = absurd cc

-- records that fit one frame are refused for want of memory alone
pub memory_alone : (new : List Record) (groups : Bool) (f : LogFault) → Fails fault_of f (frames_or groups new) → (f ≡ TooLarge → ⊥) → is_device f ≡ false → of_log f ≡ OutOfMemory
memory_alone new groups BadMagic fails small other = absurd (is_sound (nat_lt 4294967295 (length (frame_spelling new))) (frames_of groups new) bad_magic (λ e. absurd cc) fails)
memory_alone new groups (Damaged offset) fails small other = absurd (is_sound (nat_lt 4294967295 (length (frame_spelling new))) (frames_of groups new) (damaged offset) (λ e. absurd cc) fails)
memory_alone new groups Device fails small other = absurd cc
memory_alone new groups NoMemory fails small other = refl
memory_alone new groups TooLarge fails small other = absurd (small refl)

-- the step of a record that is ready
pub recorded : (c : Copy) (p : Planned) (r : Result Prepared CopyFault) (step : Step) → step ≡ Ok (stepped_by c p) → IfOk r (λ q. prepared_step c q ≡ stepped_by c p) → IfErr r (λ e. e ≡ OutOfMemory) → Gives copy_fault (prepared_step c) r step
recorded c p (Ok q) step is gives memory = is ∙ ap (λ (s : Stepped). let a : Step = Ok s in a) (sym gives)
recorded c p (Err e) step is gives memory = subst (λ (x : CopyFault). Fails copy_fault x step) (sym memory) tt
