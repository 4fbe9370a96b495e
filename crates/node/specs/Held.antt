-- A copy with its journal.
use Rattle.std.specs.Prelude.{◌≡◌, Bool, List, [], ◌∷◌, ◌++◌, length, Err}
use Rattle.replica.specs.declared.input.Input.{Input}
use Rattle.replica.specs.Copy.{Copy}
use Rattle.replica.specs.Logged.{Logged}
use Rattle.journal.specs.declared.journal.Deed.{Deed}
use Rattle.journal.specs.Journal.{IsLegal, IsLegalAt, after, open_at}
use Rattle.node.specs.declared.fault.NodeFault.{NodeFault}
use Rattle.node.specs.declared.fault.NodeFault.TheVariants.{NoMemory, NoSeat, Copy as Refused, Stray, Forgotten}
use Rattle.node.specs.Entry.{Receipt, HasSoundRecords}
use Rattle.node.specs.Passes.{PassData}
use Rattle.node.specs.Replay.{IsReplayed}

-- the journal of a copy: whether memory has it, what the copy was at the beginning, and its calls since
pub record JournalData : Type 0 where
  pub kept : Bool
  pub opening : Copy
  pub deeds : List Deed

abbrev pub journal : Bool → Copy → List Deed → JournalData
journal kept opening deeds = record { kept = kept; opening = opening; deeds = deeds }

-- the journal is legal, and the copy is what it says
pub record IsHeld (h : JournalData) (l : Logged) : Type 0 where
  pub sound : HasSoundRecords h.opening
  pub legal : IsLegal (open_at h.opening) 0 h.deeds
  pub replayed : IsReplayed (after (open_at h.opening) 0 h.deeds) l

-- one call: its entry is the last of the journal, is legal there, and its receipt is the last of the pass
pub record IsCall (old new : JournalData) (p q : PassData) (input : Input) (r : Receipt) : Type 0 where
  pub journal : new ≡ record old { deeds = old.deeds ++ r.deed ∷ [] }
  pub pass : q ≡ record p { receipts = p.receipts ++ r ∷ [] }
  pub node : r.node ≡ old.opening.id
  pub place : r.place ≡ length old.deeds
  pub entries : r.deeds ≡ new.deeds
  pub number : r.deed.pass ≡ p.number
  pub asked : r.deed.input ≡ input
  pub legal : IsLegalAt (after (open_at old.opening) 0 old.deeds) r.deed

-- what a refusal leaves: the copy's is a call too
abbrev pub IsRefusal : JournalData → JournalData → PassData → PassData → Input → NodeFault → Type 0
IsRefusal old new p q input NoMemory = (new ≡ old) × (q ≡ p)
IsRefusal old new p q input NoSeat = ⊥
IsRefusal old new p q input (Stray place) = ⊥
IsRefusal old new p q input (Forgotten place) = ⊥
IsRefusal old new p q input (Refused e) = (r : Receipt) × IsCall old new p q input r × (r.deed.answer ≡ Err e)

-- the receipt is the last of a legal journal
pub record IsLastOf (h : JournalData) (r : Receipt) : Type 0 where
  pub legal : IsLegal (open_at h.opening) 0 h.deeds
  pub node : r.node ≡ h.opening.id
  pub entries : r.deeds ≡ h.deeds
  pub last : (before : List Deed) × (h.deeds ≡ before ++ r.deed ∷ []) × (r.place ≡ length before)
