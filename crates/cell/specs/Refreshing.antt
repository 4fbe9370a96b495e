-- A write with the refresh after it, and the note of what searches show then.
use Rattle.std.specs.Prelude.{◌≡◌, ◌⊎◌}
use Rattle.replica.specs.declared.input.Input.TheVariants.{Write as Client, Refresh}
use Rattle.replica.specs.declared.input.Write.{Write}
use Rattle.published.specs.declared.listing.Published.{Published}
use Rattle.node.specs.declared.fault.NodeFault.{NodeFault}
use Rattle.node.specs.declared.fault.NodeFault.TheVariants.{NoMemory}
use Rattle.node.specs.Entry.{Receipt}
use Rattle.node.specs.Passes.{PassData}
use Rattle.node.specs.Held.{IsCall}
use Rattle.cell.specs.Publishing.{CellData, IsAllShown, IsRefusedCall}

-- a refresh has its entry, searches show all records of the copy, and the note is of what they show
pub record IsRefreshed (old new : CellData) (p q : PassData) (note : Published) : Type 0 where
  pub receipt : Receipt
  pub call : IsCall old.journal new.journal p q Refresh receipt
  pub whole : IsAllShown new
  pub note_is : note ≡ new.line.shown

-- the refresh has its entry, and there was no memory for the note
pub record IsWithoutNote (old new : CellData) (p q : PassData) (e : NodeFault) : Type 0 where
  pub receipt : Receipt
  pub call : IsCall old.journal new.journal p q Refresh receipt
  pub memory : e ≡ NoMemory

-- the refresh was refused, or there is no note of it
abbrev pub IsUnnoted : CellData → CellData → PassData → PassData → NodeFault → Type 0
IsUnnoted old new p q e = IsRefusedCall old new p q Refresh e ⊎ IsWithoutNote old new p q e

-- the write has its entry, and then the refresh
pub record IsWriteRefreshed (old new : CellData) (p q : PassData) (w : Write) (r : Receipt) (note : Published) : Type 0 where
  pub between : CellData
  pub passed : PassData
  pub write : IsCall old.journal between.journal p passed (Client w) r
  pub refresh : IsRefreshed between new passed q note

-- the write has its entry, and its receipt is in the pass; what was to follow was refused
pub record IsWriteAlone (old new : CellData) (p q : PassData) (w : Write) (e : NodeFault) : Type 0 where
  pub between : CellData
  pub passed : PassData
  pub receipt : Receipt
  pub write : IsCall old.journal between.journal p passed (Client w) receipt
  pub rest : IsUnnoted between new passed q e

-- the write was refused, or stands alone
abbrev pub IsUnrefreshed : CellData → CellData → PassData → PassData → Write → NodeFault → Type 0
IsUnrefreshed old new p q w e = IsRefusedCall old new p q (Client w) e ⊎ IsWriteAlone old new p q w e
