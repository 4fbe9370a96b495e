-- Receipts that stand in a journal.
use Rattle.std.specs.Prelude.{◌≡◌, ℕ, ◌+◌, ◌-◌, false, List, length, Option, Some, IfSome, slice_get}
use Rattle.replica.specs.declared.input.Input.{Input}
use Rattle.journal.specs.declared.journal.Deed.{Deed}
use Rattle.node.specs.declared.fault.NodeFault.{NodeFault}
use Rattle.node.specs.declared.fault.NodeFault.TheVariants.{NoMemory, NoSeat, Copy as Refused, Stray, Forgotten}
use Rattle.node.specs.Entry.{Receipt}
use Rattle.node.specs.Passes.{PassData}
use Rattle.node.specs.Held.{JournalData, IsRefusal}

-- the receipt stands in the journal of its node at its place, with its pass, input and answer
abbrev pub Stands : ℕ → List Deed → Receipt → Type 0
Stands node deeds r = (r.node ≡ node) × (slice_get deeds r.place ≡ Some r.deed)

abbrev pub last_of_pass : PassData → Option Receipt
last_of_pass p = slice_get p.receipts (length p.receipts - 1)

-- the last receipt of the pass stands, if it has one
abbrev pub LastStands : JournalData → PassData → Type 0
LastStands h p = IfSome (last_of_pass p) (λ r. Stands h.opening.id h.deeds r)

-- the last receipt of the pass doesn't stand at its place
pub record IsStray (h : JournalData) (p : PassData) (place : ℕ) : Type 0 where
  pub last : Receipt
  pub is : last_of_pass p ≡ Some last
  pub at : place ≡ last.place
  pub stray : Stands h.opening.id h.deeds last → ⊥

-- memory has no entry at the place of the pass's last receipt any more, which isn't the last entry
pub record IsForgotten (h : JournalData) (p : PassData) (place : ℕ) : Type 0 where
  pub unkept : h.kept ≡ false
  pub last : Receipt
  pub is : last_of_pass p ≡ Some last
  pub at : place ≡ last.place
  pub earlier : place + 1 ≡ length h.deeds → ⊥

-- why a pass is let make no call
abbrev pub IsBarred : JournalData → PassData → NodeFault → Type 0
IsBarred h p NoMemory = ⊥
IsBarred h p NoSeat = ⊥
IsBarred h p (Stray place) = IsStray h p place
IsBarred h p (Forgotten place) = IsForgotten h p place
IsBarred h p (Refused e) = ⊥

-- what a refusal leaves: nothing where memory runs out or the pass may not call; a call where the copy itself refuses
abbrev pub IsDenied : JournalData → JournalData → PassData → PassData → Input → NodeFault → Type 0
IsDenied old new p q input NoMemory = (new ≡ old) × (q ≡ p)
IsDenied old new p q input NoSeat = ⊥
IsDenied old new p q input (Stray place) = (new ≡ old) × (q ≡ p) × IsStray old p place
IsDenied old new p q input (Forgotten place) = (new ≡ old) × (q ≡ p) × IsForgotten old p place
IsDenied old new p q input (Refused e) = IsRefusal old new p q input (Refused e) × LastStands old p
