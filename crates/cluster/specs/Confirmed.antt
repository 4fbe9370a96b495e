-- Receipts that answer what was asked.
use Rattle.std.specs.Prelude.{◌≡◌, ◌≤◌, ◌==◌, ◌||◌, ℕ, Bool, true, false, List, slice_get, Option, Some, None, Result, Ok, Err, IsErr}
use mathlib.Core.List.{IsPrefix}
use Rattle.op.specs.declared.message.Content.{Content}
use Rattle.op.specs.declared.message.Content.TheVariants.{Op as Operation, Ack, Promoted, Resync, Track, Recover, Synced, Fail, Removed}
use Rattle.op.specs.declared.operation.Op.{Op}
use Rattle.replica.specs.declared.fault.CopyFault.{CopyFault}
use Rattle.replica.specs.declared.fault.CopyFault.TheVariants.{NotPrimary, VersionConflict, WindowFull, OldTerm, NotSynced, BeyondWindow, Mismatch, Closed, Log, NoMemory as OutOfMemory, WrongAddress, Exhausted}
use Rattle.replica.specs.declared.input.Input.{Input}
use Rattle.replica.specs.declared.input.Input.TheVariants.{Write as Client, Bulk, Take, Report, Refresh, Get, Restart}
use Rattle.replica.specs.declared.input.Write.{Write}
use Rattle.replica.specs.declared.output.Answer.{Answer}
use Rattle.replica.specs.declared.output.Answer.TheVariants.{Wrote, Bulked, Taken, Stale, Repeated, Reported, Found, Missing, Point}
use Rattle.replica.specs.declared.output.Output.{Output}
use Rattle.replica.specs.declared.output.Written.{Written}
use Rattle.journal.specs.declared.journal.Deed.{Deed}
use Rattle.node.specs.Entry.{Receipt, IsEntry}
use Rattle.cluster.specs.declared.confirmed.Confirmed.{Confirmed}
use Rattle.cluster.specs.declared.fault.WriteFault.{WriteFault}
use Rattle.cluster.specs.declared.fault.WriteFault.TheVariants.{NoPrimary, Refused, Lost, Unconfirmed, Cluster}

-- the entry is of this node, and was asked this
pub record IsAnswerTo (node : ℕ) (asked : Input) (r : Receipt) : Type 0 where
  pub node_is : r.node ≡ node
  pub input_is : r.deed.input ≡ asked

-- what a write was kept as
abbrev pub written_as : Answer → Option Written
written_as (Wrote w) = Some w
written_as (Bulked items) = None
written_as Taken = None
written_as Stale = None
written_as Repeated = None
written_as Reported = None
written_as (Found d) = None
written_as Missing = None
written_as (Point n) = None

abbrev pub wrote : Result Output CopyFault → Option Written
wrote (Ok output) = written_as output.answer
wrote (Err e) = None

-- one of the operations has this number and term
pub record IsAcknowledged (ops : List Op) (seq term : ℕ) : Type 0 where
  pub place : ℕ
  pub op : Op
  pub there : slice_get ops place ≡ Some op
  pub seq_is : op.seq ≡ seq
  pub term_is : op.term ≡ term

abbrev pub AcknowledgedBy : Result Output CopyFault → Written → Type 0
AcknowledgedBy (Ok output) w = IsAcknowledged output.acknowledged w.seq w.term
AcknowledgedBy (Err e) w = ⊥

-- the entry acknowledges the write
abbrev pub Acknowledges : Receipt → Written → Type 0
Acknowledges r w = AcknowledgedBy r.deed.answer w

-- the second is of the same journal, at the place of the first or after it
pub record IsBehind (first second : Receipt) : Type 0 where
  pub stands : IsEntry second
  pub copy : second.node ≡ first.node
  pub behind : first.place ≤ second.place
  pub one : IsPrefix first.deeds second.deeds

-- whether the message makes the copy the primary of a term
abbrev pub promotes : Content → Bool
promotes (Promoted set) = true
promotes (Operation g o) = false
promotes (Ack seq below) = false
promotes (Resync g tail) = false
promotes (Track r) = false
promotes (Recover all) = false
promotes (Synced r) = false
promotes (Fail r) = false
promotes (Removed r) = false

abbrev pub is_promotion : Input → Bool
is_promotion (Take m) = promotes m.content
is_promotion (Client w) = false
is_promotion (Bulk ws) = false
is_promotion (Report r) = false
is_promotion Refresh = false
is_promotion (Get id) = false
is_promotion Restart = false

-- whether the copy isn't the primary, its log failed, or it's closed
abbrev pub is_unled : CopyFault → Bool
is_unled NotPrimary = true
is_unled Closed = true
is_unled (Log f) = true
is_unled VersionConflict = false
is_unled WindowFull = false
is_unled OldTerm = false
is_unled NotSynced = false
is_unled BeyondWindow = false
is_unled Mismatch = false
is_unled OutOfMemory = false
is_unled WrongAddress = false
is_unled Exhausted = false

-- whether a copy leads no more with this answer, for it counts no copies that have to acknowledge its writes, or leads again
abbrev pub is_end_by : Input → Result Output CopyFault → Bool
is_end_by input (Ok output) = (output.members == 0) || is_promotion input
is_end_by input (Err e) = is_unled e

abbrev pub is_end : Deed → Bool
is_end d = is_end_by d.input d.answer

-- the second entry stands after the first, and ends the lead in which the first was written
pub record IsEndedBy (first second : Receipt) : Type 0 where
  pub behind : IsBehind first second
  pub ends : is_end second.deed ≡ true

-- a write with an entry of its own in the journal of its copy, and one after it that acknowledges it
pub record IsConfirmed {J : Type 0} (write : Write) (c : Confirmed J) : Type 0 where
  pub written : Written
  pub asked : c.write.deed.input ≡ Client write
  pub stands : IsEntry c.write
  pub kept : wrote c.write.deed.answer ≡ Some written
  pub acknowledged : Acknowledges c.acknowledgement written
  pub behind : IsBehind c.write c.acknowledgement

-- what the wait for an acknowledgement of a kept write gives
pub record IsAcknowledgedWrite {J : Type 0} (receipt : Receipt) (written : Written) (c : Confirmed J) : Type 0 where
  pub is : c.write ≡ receipt
  pub acknowledged : Acknowledges c.acknowledgement written
  pub behind : IsBehind c.write c.acknowledgement

-- the copy isn't the primary, or is closed
abbrev pub is_no_primary : Result Output CopyFault → Bool
is_no_primary (Ok output) = false
is_no_primary (Err NotPrimary) = true
is_no_primary (Err Closed) = true
is_no_primary (Err VersionConflict) = false
is_no_primary (Err WindowFull) = false
is_no_primary (Err OldTerm) = false
is_no_primary (Err NotSynced) = false
is_no_primary (Err BeyondWindow) = false
is_no_primary (Err Mismatch) = false
is_no_primary (Err (Log f)) = false
is_no_primary (Err OutOfMemory) = false
is_no_primary (Err WrongAddress) = false
is_no_primary (Err Exhausted) = false

-- the refusal that an entry shows: that its copy isn't the primary, or another one
abbrev pub IsRefusalBy : {J : Type 0} → Receipt → WriteFault J → Type 0
IsRefusalBy receipt (NoPrimary r) = (r ≡ receipt) × (is_no_primary receipt.deed.answer ≡ true)
IsRefusalBy receipt (Refused r) = (r ≡ receipt) × IsErr receipt.deed.answer
IsRefusalBy receipt (Lost r last) = ⊥
IsRefusalBy receipt (Unconfirmed r) = ⊥
IsRefusalBy receipt (Cluster f) = Unit {0}

-- a write that its copy kept wasn't acknowledged: the refusal holds its entry, and where another one ended the lead, that too; or it holds none
abbrev pub IsEndOf : {J : Type 0} → Receipt → WriteFault J → Type 0
IsEndOf receipt (NoPrimary r) = ⊥
IsEndOf receipt (Refused r) = ⊥
IsEndOf receipt (Lost r last) = (r ≡ receipt) × IsEndedBy receipt last
IsEndOf receipt (Unconfirmed r) = r ≡ receipt
IsEndOf receipt (Cluster f) = Unit {0}

-- a write that its copy kept, and is perhaps lost
pub record IsLost (write : Write) (r : Receipt) : Type 0 where
  pub asked : r.deed.input ≡ Client write
  pub stands : IsEntry r
  pub kept : (w : Written) × (wrote r.deed.answer ≡ Some w)

-- what a refused write shows: that no copy is the primary, or that the copy refused it, or that the write was kept, and where an entry ended the lead in
-- which it was, that one
abbrev pub IsWriteRefused : {J : Type 0} → Write → WriteFault J → Type 0
IsWriteRefused write (NoPrimary r) = (r.deed.input ≡ Client write) × IsEntry r × (is_no_primary r.deed.answer ≡ true)
IsWriteRefused write (Refused r) = (r.deed.input ≡ Client write) × IsEntry r × IsErr r.deed.answer
IsWriteRefused write (Lost r last) = IsLost write r × IsEndedBy r last
IsWriteRefused write (Unconfirmed r) = IsLost write r
IsWriteRefused write (Cluster f) = Unit {0}
