-- A copy with its journal, and what searches show of it.
use Rattle.std.specs.Prelude.{◌≡◌, ◌⊎◌, true, false, length}
use Rattle.std.specs.Arc.{arc_value}
use Rattle.replica.specs.Copy.{Copy}
use Rattle.replica.specs.declared.input.Input.{Input}
use Rattle.replica.specs.Logged.{is_refresh}
use Rattle.chronicle.specs.Written as chronicle
use Rattle.published.specs.Line.{Line}
use Rattle.op.specs.Records.{StartsWith}
use Rattle.published.specs.Listings.{GoesOn}
use Rattle.published.specs.Showing.{cell_of}
use Rattle.published.specs.declared.showing.Showing.{Showing}
use Rattle.node.specs.declared.fault.NodeFault.{NodeFault}
use Rattle.node.specs.declared.fault.NodeFault.TheVariants.{NoMemory, NoSeat, Copy as Refused, Stray, Forgotten}
use Rattle.node.specs.Entry.{Receipt}
use Rattle.node.specs.Passes.{PassData}
use Rattle.node.specs.Held.{JournalData, IsCall}
use Rattle.node.specs.Stands.{IsDenied}
use Rattle.node.specs.Reading.{standing}

-- one copy at a later time: it has the records of before, and perhaps more
pub record IsLater (new old : Copy) : Type 0 where
  pub mapping : new.mapping ≡ old.mapping
  pub records : StartsWith new.records old.records

-- the journal of a copy, and the line of what it published
pub record CellData : Type 0 where
  pub journal : JournalData
  pub line : Line

-- what is shown, and what was to be shown last, begins the records of the copy
pub record IsPublishedOf (c : Copy) (p : Line) : Type 0 where
  pub cell : p.top.cell ≡ cell_of p.book
  pub mapping : p.top.mapping ≡ c.mapping
  pub records : StartsWith c.records p.top.records
  pub shown : GoesOn p.top p.shown.listing

abbrev pub IsPublished : JournalData → Line → Type 0
IsPublished h p = IsPublishedOf (standing h).copy p

-- searches show all records of the copy
pub record IsAllShown (c : CellData) : Type 0 where
  pub mapping : c.line.shown.listing.mapping ≡ (standing c.journal).copy.mapping
  pub records : c.line.shown.listing.records ≡ (standing c.journal).copy.records

-- a call is in the journal, and what is shown stays: there was no memory for what it shows
pub record IsUnshown (old new : CellData) (p q : PassData) (input : Input) : Type 0 where
  pub refresh : is_refresh input ≡ true
  pub receipt : Receipt
  pub call : IsCall old.journal new.journal p q input receipt
  pub shown : new.line.shown ≡ old.line.shown

-- what a refusal leaves
pub record IsKept (old new : CellData) (p q : PassData) (input : Input) (e : NodeFault) : Type 0 where
  pub denied : IsDenied old.journal new.journal p q input e
  pub line : new.line ≡ old.line

abbrev pub IsRefusedCall : CellData → CellData → PassData → PassData → Input → NodeFault → Type 0
IsRefusedCall old new p q input NoMemory = IsKept old new p q input NoMemory ⊎ IsUnshown old new p q input
IsRefusedCall old new p q input NoSeat = ⊥
IsRefusedCall old new p q input (Stray place) = IsKept old new p q input (Stray place)
IsRefusedCall old new p q input (Forgotten place) = IsKept old new p q input (Forgotten place)
IsRefusedCall old new p q input (Refused e) = IsKept old new p q input (Refused e)

-- what a cell shows that has made no call
pub record IsBegun (h : JournalData) (c : CellData) : Type 0 where
  pub journal : c.journal ≡ h
  pub whole : IsAllShown c

-- the showing is of all records of the copy, whose journal is of this registry
pub record IsShownBy (l : chronicle.Line) (c : Copy) (s : Showing) : Type 0 where
  pub mapping : (arc_value s.snapshot).mapping ≡ c.mapping
  pub records : s.place.records ≡ c.records
  pub registry : s.place.registry ≡ l

-- after a refresh or a restart searches show all records, and after another call what they showed
pub record IsShownAfter (input : Input) (old new : CellData) : Type 0 where
  pub whole : is_refresh input ≡ true → IsAllShown new
  pub same : is_refresh input ≡ false → new.line ≡ old.line

-- after one step, before anything is published
pub record IsStepped (input : Input) (old new : CellData) : Type 0 where
  pub line : new.line ≡ old.line
  pub whole : is_refresh input ≡ true → (standing new.journal).copy.point ≡ length (standing new.journal).copy.records
