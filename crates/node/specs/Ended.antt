-- The journal of a copy that has ended, and receipts in it.
use Rattle.std.specs.Prelude.{◌≡◌, ℕ, List, [], Option, Some, None}
use mathlib.Core.List.{IsPrefix}
use Rattle.chronicle.specs.Registered.{PrefixData}
use Rattle.journal.specs.declared.journal.Deed.{Deed}
use Rattle.journal.specs.declared.journal.Journal.{Journal}
use Rattle.journal.specs.declared.journal.Journal.TheVariants.{OfMaster, OfCopy}
use Rattle.journal.specs.Lawful.{IsLawful}
use Rattle.replica.specs.Copy.{Copy}
use Rattle.node.specs.Entry.{Receipt}
use Rattle.node.specs.Gathered.{deed_at}

-- whose calls the journal has: the master's, which is node 0, or a copy's
abbrev pub node_of : Journal → ℕ
node_of (OfMaster state rulings) = 0
node_of (OfCopy opening deeds) = opening.id

-- the entries of a copy's journal
abbrev pub deeds_of : Journal → List Deed
deeds_of (OfMaster state rulings) = []
deeds_of (OfCopy opening deeds) = deeds

-- what was heard of a copy's journal is all of it; nothing where it has no entry
abbrev pub IsAllOf : Journal → Option (PrefixData Deed) → Type 0
IsAllOf j None = deeds_of j ≡ []
IsAllOf j (Some h) = (h.number ≡ node_of j) × (h.entries ≡ deeds_of j)

-- the journal is that of a copy which began as this one
pub record IsJournalFrom (began : Copy) (j : Journal) : Type 0 where
  pub deeds : List Deed
  pub is : j ≡ OfCopy began deeds

-- what a copy leaves that began as this one: a legal journal, all of which was heard at last
pub record IsEnded (began : Copy) (h : Option (PrefixData Deed)) (j : Journal) : Type 0 where
  pub from : IsJournalFrom began j
  pub legal : IsLawful j
  pub all : IsAllOf j h

-- the receipt stands in the journal of its node, which extends all entries up to it
pub record HasReceipt (r : Receipt) (j : Journal) : Type 0 where
  pub node : node_of j ≡ r.node
  pub stands : deed_at j r.place ≡ Some r.deed
  pub entries : IsPrefix r.deeds (deeds_of j)
