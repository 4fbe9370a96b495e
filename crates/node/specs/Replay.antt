-- A copy is what its journal says.
use Rattle.std.specs.Prelude.{◌≡◌, ◌⊎◌, ◌||◌, true, false, Option, Some, None, Result, Ok, Err, IfOk, OnOk, IfErr}
use Rattle.doc.specs.Outcome.{Gives}
use Rattle.op.specs.Records.{StartsWith}
use Rattle.translog.specs.Kept.{kept}
use Rattle.replica.specs.declared.fault.CopyFault.{CopyFault}
use Rattle.replica.specs.declared.fault.CopyFault.TheVariants.{Closed}
use Rattle.replica.specs.declared.input.Input.{Input}
use Rattle.replica.specs.declared.output.Output.{Output}
use Rattle.replica.specs.Copy.{Copy}
use Rattle.replica.specs.Fault.{fault_of, is_log}
use Rattle.replica.specs.Logged.{Logged, IsRefusal, IsReopened, IsSameCopy, IsUnread, is_restart}
use Rattle.replica.specs.Step.{Step, copy_step, members_of, stepped}
use Rattle.journal.specs.Journal.{Shut, Standing, keeps_record, left_by}

-- a copy whose log failed: it is closed, and its log keeps the records of before, or also that of the step that failed
pub record IsShutAs (c : Copy) (f : Shut) (l : Logged) : Type 0 where
  pub closed : l.closed ≡ true
  pub same : IsSameCopy c l.copy
  pub records : (kept l.log ≡ Ok c.records) ⊎ (kept l.log ≡ Ok f.other)
  pub other : StartsWith f.other c.records

abbrev pub IsReplayedAs : Copy → Option Shut → Logged → Type 0
IsReplayedAs c None l = (l.closed ≡ false) × (l.copy ≡ c)
IsReplayedAs c (Some f) l = IsShutAs c f l

-- the copy is as its journal says
abbrev pub IsReplayed : Standing → Logged → Type 0
IsReplayed s l = IsReplayedAs s.copy s.shut l

-- the log may fail in the step: it keeps a record or is a restart, and loses no record
pub record MayFail (c : Copy) (input : Input) (step : Step) : Type 0 where
  pub uses : (is_restart input || keeps_record c step) ≡ true
  pub grows : StartsWith (left_by c step).records c.records

-- what a step of a copy tells
pub record IsStep (old new : Logged) (input : Input) (r : Result Output CopyFault) : Type 0 where
  pub step : old.closed ≡ false → Gives fault_of (stepped new.copy) r (copy_step old.copy input)
  pub members : IfOk r (λ o. o.members ≡ members_of new.copy.role)
  pub closed : old.closed ≡ true → is_restart input ≡ false → r ≡ Err Closed
  pub opened : OnOk r (new.closed ≡ false)
  pub refused : IfErr r (IsRefusal old new (copy_step old.copy input))
  pub fails : old.closed ≡ false → IfErr r (λ e. is_log e ≡ true → MayFail old.copy input (copy_step old.copy input))
  pub found : is_restart input ≡ true → IfOk r (IsReopened old new)
  pub unread : is_restart input ≡ true → IfErr r (IsUnread old.log)

-- nothing was done: the copy is as it was, and its log keeps what it kept
pub record IsIdle (old new : Logged) : Type 0 where
  pub copy : new.copy ≡ old.copy
  pub closed : new.closed ≡ old.closed
  pub records : kept new.log ≡ kept old.log
