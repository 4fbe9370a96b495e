-- What a journal says of its copy: which answers may stand in it, and what the copy did.
use Rattle.std.specs.Prelude.{◌≡◌, ℕ, suc, Bool, true, false, not, ◌||◌, ◌==◌, nat_lt, List, [], ◌∷◌, ◌++◌, length, Option, Some, None, IfSome, Result, Ok, Err}
use Rattle.op.specs.declared.record.Record.{Record}
use Rattle.replica.specs.declared.fault.CopyFault.{CopyFault}
use Rattle.replica.specs.declared.fault.CopyFault.TheVariants.{NotPrimary, VersionConflict, WindowFull, OldTerm, NotSynced, BeyondWindow, Mismatch, Closed, Log, NoMemory, WrongAddress, Exhausted}
use Rattle.replica.specs.declared.input.Input.{Input}
use Rattle.replica.specs.declared.input.Input.TheVariants.{Restart as Restarting}
use Rattle.replica.specs.declared.output.Answer.{Answer}
use Rattle.replica.specs.declared.output.Answer.TheVariants.{Wrote, Bulked, Taken, Stale, Repeated, Reported, Found, Missing, Point}
use Rattle.replica.specs.declared.output.Output.{Output}
use Rattle.replica.specs.Copy.{Copy, opened}
use Rattle.replica.specs.Fault.{fault_of, is_log}
use Rattle.replica.specs.Logged.{is_restart}
use Rattle.replica.specs.Step.{Step, copy_step, members_of, stepped}
use Rattle.journal.specs.declared.journal.Deed.{Deed}
use Rattle.journal.specs.declared.moves.Move.{Move}
use Rattle.journal.specs.declared.moves.Move.TheVariants.{Does as does, Tears as tears}
use Rattle.journal.specs.declared.moves.Placed.{Placed}

-- ---- a copy

-- a log that failed: at which entry, what was asked, and the records that are there if its record was kept
pub record Shut : Type 0 where
  pub place : ℕ
  pub input : Input
  pub other : List Record

-- a copy as its journal says, and since when it is closed
pub record Standing : Type 0 where
  pub copy : Copy
  pub shut : Option Shut

abbrev pub open_at : Copy → Standing
open_at c = record { copy = c; shut = None }

-- the copy that a step leaves
abbrev pub left_by : Copy → Step → Copy
left_by c (Ok s) = s.copy
left_by c (Err e) = c

abbrev pub reopened : Copy → List Record → Copy
reopened c rs = opened c.id c.birth c.mapping rs

-- whether a step keeps a record
abbrev pub keeps_record : Copy → Step → Bool
keeps_record c (Ok s) = nat_lt (length c.records) (length s.copy.records)
keeps_record c (Err e) = false

-- whether a restart found this many records
abbrev pub is_point : Answer → ℕ → Bool
is_point (Point n) m = n == m
is_point (Wrote w) m = false
is_point (Bulked items) m = false
is_point Taken m = false
is_point Stale m = false
is_point Repeated m = false
is_point Reported m = false
is_point (Found d) m = false
is_point Missing m = false

-- the records that a restart found: with that of the step that failed, or without it
abbrev pub is_kept : Copy → Shut → Output → Bool
is_kept c f output = not (is_point output.answer (length c.records))

abbrev pub found : Copy → Shut → Bool → List Record
found c f true = f.other
found c f false = c.records

-- which refusals may be answered: a fault of the log if a record is kept or the copy restarts; a lack of memory always; others if the step has them
abbrev pub MayRefuse : Copy → Input → CopyFault → Bool → Type 0
MayRefuse c input e true = (is_restart input || keeps_record c (copy_step c input)) ≡ true
MayRefuse c input e false = IfSome (fault_of e) (λ f. copy_step c input ≡ Err f)

-- a closed copy answers that it is closed, that memory ran out, or, to a restart, that its log failed
abbrev pub may_shut : Bool → CopyFault → Bool
may_shut restart NoMemory = true
may_shut restart (Log f) = restart
may_shut restart Closed = not restart
may_shut restart NotPrimary = false
may_shut restart VersionConflict = false
may_shut restart WindowFull = false
may_shut restart OldTerm = false
may_shut restart NotSynced = false
may_shut restart BeyondWindow = false
may_shut restart Mismatch = false
may_shut restart WrongAddress = false
may_shut restart Exhausted = false

-- a restart is accepted, and answers how many records it found: without or with that of the step that failed
pub record IsReopening (c : Copy) (f : Shut) (input : Input) (output : Output) : Type 0 where
  pub restart : is_restart input ≡ true
  pub point : (is_point output.answer (length c.records) || is_point output.answer (length f.other)) ≡ true
  pub sent : output.sent ≡ []
  pub acknowledged : output.acknowledged ≡ []
  pub members : output.members ≡ 0

-- the output is the step's, and counts the copies that have to acknowledge the writes of the copy that it leaves
abbrev pub IsOutputOf : Copy → Step → Output → Type 0
IsOutputOf c step output = (step ≡ Ok (stepped (left_by c step) output)) × (output.members ≡ members_of (left_by c step).role)

-- the answer may be given there
abbrev pub MayAnswer : Copy → Option Shut → Input → Result Output CopyFault → Type 0
MayAnswer c None input (Ok output) = IsOutputOf c (copy_step c input) output
MayAnswer c None input (Err e) = MayRefuse c input e (is_log e)
MayAnswer c (Some f) input (Ok output) = IsReopening c f input output
MayAnswer c (Some f) input (Err e) = may_shut (is_restart input) e ≡ true

abbrev pub IsLegalAt : Standing → Deed → Type 0
IsLegalAt s d = MayAnswer s.copy s.shut d.input d.answer

-- what an answer leaves
abbrev pub refused_at : Copy → ℕ → Input → Bool → Standing
refused_at c place input true = record { copy = c; shut = Some (record { place = place; input = input; other = (left_by c (copy_step c input)).records }) }
refused_at c place input false = open_at c

abbrev pub answered : Copy → Option Shut → ℕ → Input → Result Output CopyFault → Standing
answered c None place input (Ok output) = open_at (left_by c (copy_step c input))
answered c None place input (Err e) = refused_at c place input (is_log e)
answered c (Some f) place input (Ok output) = open_at (reopened c (found c f (is_kept c f output)))
answered c (Some f) place input (Err e) = record { copy = c; shut = Some f }

abbrev pub next : Standing → ℕ → Deed → Standing
next s place d = answered s.copy s.shut place d.input d.answer

-- each answer may be given where it stands
abbrev pub IsLegal : Standing → ℕ → List Deed → Type 0
IsLegal s place [] = Unit {0}
IsLegal s place (d ∷ ds) = IsLegalAt s d × IsLegal (next s place d) (suc place) ds

-- ---- what a copy did

abbrev pub placed : ℕ → Move → Placed
placed place m = record { place = place; what = m }

-- whether a refused entry is an event: not where memory ran out, the copy is closed, its log failed, or the message is to another copy
abbrev pub is_event : CopyFault → Bool
is_event NoMemory = false
is_event Closed = false
is_event (Log f) = false
is_event WrongAddress = false
is_event NotPrimary = true
is_event VersionConflict = true
is_event WindowFull = true
is_event OldTerm = true
is_event NotSynced = true
is_event BeyondWindow = true
is_event Mismatch = true
is_event Exhausted = true

abbrev pub moves_if : Bool → ℕ → Move → List Placed
moves_if true place m = placed place m ∷ []
moves_if false place m = []

-- a step that failed, with the restart after it
abbrev pub torn_move : Bool → Input → Bool → Move
torn_move true input kept = does Restarting
torn_move false input kept = tears input kept

abbrev pub moves_at : Copy → Option Shut → ℕ → Input → Result Output CopyFault → List Placed
moves_at c None place input (Ok output) = placed place (does input) ∷ []
moves_at c None place input (Err e) = moves_if (is_event e) place (does input)
moves_at c (Some f) place input (Ok output) = placed f.place (torn_move (is_restart f.input) f.input (is_kept c f output)) ∷ []
moves_at c (Some f) place input (Err e) = []

abbrev pub moves : Standing → ℕ → List Deed → List Placed
moves s place [] = []
moves s place (d ∷ ds) = moves_at s.copy s.shut place d.input d.answer ++ moves (next s place d) (suc place) ds

-- the copy after all entries
abbrev pub after : Standing → ℕ → List Deed → Standing
after s place [] = s
after s place (d ∷ ds) = after (next s place d) (suc place) ds
