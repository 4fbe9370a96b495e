-- Receipts that answer a bulk.
use Rattle.std.specs.Prelude.{◌≡◌, ℕ, Bool, true, false, List, [], ◌∷◌, slice_get, All, Option, Some, None, Result, Ok, Err, IsErr}
use Rattle.replica.specs.declared.fault.CopyFault.{CopyFault}
use Rattle.replica.specs.declared.input.Input.TheVariants.{Bulk}
use Rattle.replica.specs.declared.input.Write.{Write}
use Rattle.replica.specs.declared.output.Answer.{Answer}
use Rattle.replica.specs.declared.output.Answer.TheVariants as answer
use Rattle.replica.specs.declared.output.Item.{Item}
use Rattle.replica.specs.declared.output.Item.TheVariants.{Wrote, Refused}
use Rattle.replica.specs.declared.output.Output.{Output}
use Rattle.replica.specs.declared.output.Written.{Written}
use Rattle.node.specs.Entry.{Receipt, IsEntry}
use Rattle.cluster.specs.declared.confirmed.ConfirmedBulk.{ConfirmedBulk}
use Rattle.cluster.specs.declared.fault.WriteFault.{WriteFault}
use Rattle.cluster.specs.declared.fault.WriteFault.TheVariants.{NoPrimary, Refused as Denied, Lost, Unconfirmed, Cluster}
use Rattle.cluster.specs.Confirmed.{Acknowledges, is_no_primary, IsBehind, IsEndedBy}

-- what became of the writes of a bulk
abbrev pub bulked_as : Answer → Option (List Item)
bulked_as (answer.Bulked items) = Some items
bulked_as (answer.Wrote w) = None
bulked_as answer.Taken = None
bulked_as answer.Stale = None
bulked_as answer.Repeated = None
bulked_as answer.Reported = None
bulked_as (answer.Found d) = None
bulked_as answer.Missing = None
bulked_as (answer.Point n) = None

abbrev pub bulked : Result Output CopyFault → Option (List Item)
bulked (Ok output) = bulked_as output.answer
bulked (Err e) = None

-- whether a write is among them that was kept
abbrev pub has_kept : List Item → Bool
has_kept [] = false
has_kept (Wrote w ∷ items) = true
has_kept (Refused f ∷ items) = has_kept items

-- the entry at a place acknowledges the write
pub record IsAcknowledgedAt (entries : List Receipt) (place : ℕ) (w : Written) : Type 0 where
  pub entry : Receipt
  pub there : slice_get entries place ≡ Some entry
  pub acknowledges : Acknowledges entry w

-- what became of a write, and a place: where the write was kept the entry there acknowledges it
abbrev pub IsSettledAt : List Receipt → Item → ℕ → Type 0
IsSettledAt entries (Wrote w) place = IsAcknowledgedAt entries place w
IsSettledAt entries (Refused f) place = Unit {0}

-- each has its place, and there are no others
abbrev pub AreSettledAt : List Receipt → List Item → List ℕ → Type 0
AreSettledAt entries [] [] = Unit {0}
AreSettledAt entries [] (place ∷ places) = ⊥
AreSettledAt entries (item ∷ items) [] = ⊥
AreSettledAt entries (item ∷ items) (place ∷ places) = IsSettledAt entries item place × AreSettledAt entries items places

-- each item of a bulk's entry has its place
pub record AreBulkSettledAt (bulk : Receipt) (entries : List Receipt) (places : List ℕ) : Type 0 where
  pub items : List Item
  pub kept : bulked bulk.deed.answer ≡ Some items
  pub acknowledged : AreSettledAt entries items places

-- the bulk with this entry
pub record IsSettledBulk {J : Type 0} (bulk : Receipt) (c : ConfirmedBulk J) : Type 0 where
  pub is : c.bulk ≡ bulk
  pub settled : AreBulkSettledAt c.bulk c.acknowledgements.items c.places.items
  pub behind : All (IsBehind c.bulk) c.acknowledgements.items

-- a bulk with an entry of its own in the journal of its copy, and for each of its writes that was kept one after it that acknowledges it
pub record IsBulkConfirmed {J : Type 0} (writes : List Write) (c : ConfirmedBulk J) : Type 0 where
  pub asked : c.bulk.deed.input ≡ Bulk writes
  pub stands : IsEntry c.bulk
  pub settled : AreBulkSettledAt c.bulk c.acknowledgements.items c.places.items
  pub behind : All (IsBehind c.bulk) c.acknowledgements.items

-- the entry of a bulk of which something was kept
pub record HasKept (r : Receipt) : Type 0 where
  pub items : List Item
  pub told : bulked r.deed.answer ≡ Some items
  pub some : has_kept items ≡ true

-- a bulk of which its copy kept something that is perhaps lost
pub record IsBulkLost (writes : List Write) (r : Receipt) : Type 0 where
  pub asked : r.deed.input ≡ Bulk writes
  pub stands : IsEntry r
  pub kept : HasKept r

-- what a refused bulk shows: that no copy is the primary, or that the copy refused it, or that something of it was kept, and where an entry ended the lead
-- in which it was, that one
abbrev pub IsBulkRefused : {J : Type 0} → List Write → WriteFault J → Type 0
IsBulkRefused writes (NoPrimary r) = (r.deed.input ≡ Bulk writes) × IsEntry r × (is_no_primary r.deed.answer ≡ true)
IsBulkRefused writes (Denied r) = (r.deed.input ≡ Bulk writes) × IsEntry r × IsErr r.deed.answer
IsBulkRefused writes (Lost r last) = IsBulkLost writes r × IsEndedBy r last
IsBulkRefused writes (Unconfirmed r) = IsBulkLost writes r
IsBulkRefused writes (Cluster f) = Unit {0}
