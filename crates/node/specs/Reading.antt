-- Documents that a copy is asked for without an entry of its journal.
use Rattle.std.specs.Prelude.{◌≡◌, ℕ, false, List, [], length, Option, Some, None, is_some, true}
use Rattle.doc.specs.Id.{Id}
use Rattle.op.specs.Documents.{document_at, documents}
use Rattle.replica.specs.declared.fault.CopyFault.{CopyFault}
use Rattle.replica.specs.declared.fault.CopyFault.TheVariants.{NotPrimary, VersionConflict, WindowFull, OldTerm, NotSynced, BeyondWindow, Mismatch, Closed, Log, NoMemory as OutOfMemory, WrongAddress, Exhausted}
use Rattle.replica.specs.declared.output.Answer.{Answer}
use Rattle.replica.specs.Copy.{Copy, operations}
use Rattle.replica.specs.Step.{get_answer}
use Rattle.journal.specs.declared.journal.Deed.{Deed}
use Rattle.journal.specs.Journal.{IsLegal, Standing, after, open_at}
use Rattle.chronicle.specs.Registered.{PrefixData}
use Rattle.node.specs.declared.fault.NodeFault.{NodeFault}
use Rattle.node.specs.declared.fault.NodeFault.TheVariants.{NoMemory, NoSeat, Copy as Refused, Stray, Forgotten}
use Rattle.node.specs.Entry.{HasSoundRecords}
use Rattle.node.specs.Held.{JournalData, journal}

-- what a copy has of an id, of all its records
abbrev pub got_by : Copy → Id → Answer
got_by c id = get_answer (document_at (documents (operations c)) id)

-- what a journal says of its copy
abbrev pub standing : JournalData → Standing
standing h = after (open_at h.opening) 0 h.deeds

-- the entries that a journal had; none where there was none
abbrev pub entries_in : Option (PrefixData Deed) → List Deed
entries_in None = []
entries_in (Some p) = p.entries

-- what was read: the node, how many entries its journal had, and which, the id, and what the copy has of it
pub record GotData : Type 0 where
  pub node : ℕ
  pub place : ℕ
  pub deeds : List Deed
  pub id : Id
  pub answer : Answer

-- the copy is open, and this is what it has of the id
pub record IsRead (h : JournalData) (id : Id) (answer : Answer) : Type 0 where
  pub open_then : (standing h).shut ≡ None
  pub has : answer ≡ got_by (standing h).copy id

-- it was read from the copy of this journal
pub record IsGotFrom (h : JournalData) (id : Id) (g : GotData) : Type 0 where
  pub node_is : g.node ≡ h.opening.id
  pub place_is : g.place ≡ length h.deeds
  pub deeds_is : g.deeds ≡ h.deeds
  pub id_is : g.id ≡ id
  pub read : IsRead h id g.answer

-- it is what the copy of this id, after a legal journal, has of the document's id
pub record IsGotAt (node : ℕ) (id : Id) (answer : Answer) : Type 0 where
  pub journal : JournalData
  pub legal : IsLegal (open_at journal.opening) 0 journal.deeds
  pub node_is : journal.opening.id ≡ node
  pub read : IsRead journal id answer

-- it is what the copy has after these entries, which `place` counts
pub record IsGot (g : GotData) : Type 0 where
  pub journal : JournalData
  pub sound : HasSoundRecords journal.opening
  pub legal : IsLegal (open_at journal.opening) 0 journal.deeds
  pub node_is : journal.opening.id ≡ g.node
  pub deeds_is : journal.deeds ≡ g.deeds
  pub place_is : g.place ≡ length g.deeds
  pub read : IsRead journal g.id g.answer

-- it is what the copy has after these entries of its journal, which began with this copy
pub record IsGotSince (opening : Copy) (g : GotData) : Type 0 where
  pub sound : HasSoundRecords opening
  pub legal : IsLegal (open_at opening) 0 g.deeds
  pub node_is : opening.id ≡ g.node
  pub place_is : g.place ≡ length g.deeds
  pub read : IsRead (journal false opening g.deeds) g.id g.answer

-- the copy is closed
abbrev pub IsUnreadable : JournalData → CopyFault → Type 0
IsUnreadable h Closed = is_some (standing h).shut ≡ true
IsUnreadable h NotPrimary = ⊥
IsUnreadable h VersionConflict = ⊥
IsUnreadable h WindowFull = ⊥
IsUnreadable h OldTerm = ⊥
IsUnreadable h NotSynced = ⊥
IsUnreadable h BeyondWindow = ⊥
IsUnreadable h Mismatch = ⊥
IsUnreadable h (Log f) = ⊥
IsUnreadable h OutOfMemory = ⊥
IsUnreadable h WrongAddress = ⊥
IsUnreadable h Exhausted = ⊥

-- why nothing was read: memory ran out, or the copy is closed
abbrev pub IsUngot : JournalData → NodeFault → Type 0
IsUngot h NoMemory = Unit {0}
IsUngot h NoSeat = ⊥
IsUngot h (Stray place) = ⊥
IsUngot h (Forgotten place) = ⊥
IsUngot h (Refused e) = IsUnreadable h e
