-- Journals that are handed out.
use Rattle.std.specs.Prelude.{◌≡◌, ◌<◌, ℕ, List, [], ◌∷◌, length, Option, Some, None, All, Any}
use Rattle.std.specs.List.{AllWithin, AllZip, HoldsAt}
use Rattle.journal.specs.declared.journal.Journal.{Journal}
use Rattle.journal.specs.Lawful.{IsLawful}
use Rattle.node.specs.Ended.{node_of, HasReceipt, IsJournalFrom}
use Rattle.node.specs.Entry.{Receipt}
use Rattle.node.specs.Gathered.{AreGathered, IsWhole}
use Rattle.replica.specs.Copy.{Copy}
use Rattle.cluster.specs.declared.fault.ClusterFault.{ClusterFault}
use Rattle.cluster.specs.declared.fault.ClusterFault.TheVariants.{NoMemory, NoSeat, Copy as OfCopy, Master, Stray, Running, Unopened}

-- each entry of the journal is legal
pub record IsLegalJournal (j : Journal) : Type 0 where
  pub lawful : IsLawful j

-- each is of a copy with a greater id than the one before it, and than this
abbrev pub RiseFrom : ℕ → List Journal → Type 0
RiseFrom id [] = Unit {0}
RiseFrom id (j ∷ js) = (id < node_of j) × RiseFrom (node_of j) js

-- the receipts of one caller are the entries of the journal, each under the number of its copy: each stands at its place, no two at one, and no entry
-- is without
pub record IsOfOneCaller (j : Journal) : Type 0 where
  pub receipts : List Receipt
  pub stand : AreGathered j receipts
  pub whole : IsWhole j receipts
  pub numbered : All (λ r. r.deed.pass ≡ node_of j) receipts

-- the journal is that of a copy which began as this one, legal, and of one caller
pub record IsOwnFrom (began : Copy) (j : Journal) : Type 0 where
  pub from : IsJournalFrom began j
  pub legal : IsLegalJournal j
  pub own : IsOfOneCaller j

-- the receipt stands in one of the journals
pub record StandsIn (js : List Journal) (r : Receipt) : Type 0 where
  pub one : Any (HasReceipt r) js

-- what is handed out where a cluster of `copies` copies ends, which began as these: the journal of the master, and one of each copy in the order of their
-- ids, each legal and those of copies of one caller, in which these receipts stand
pub record AreHandedOut (copies : ℕ) (began : List Copy) (receipts : List Receipt) (master : Journal) (js : List Journal) : Type 0 where
  pub legal : All IsLegalJournal (master ∷ js)
  pub all : length js ≡ copies
  pub from : AllZip IsJournalFrom began js
  pub order : RiseFrom 0 js
  pub gathered : All IsOfOneCaller js
  pub stand : All (StandsIn js) receipts

-- the receipt is of this place, and stands in none of the journals
pub record IsLost (js : List Journal) (place : ℕ) (r : Receipt) : Type 0 where
  pub at : place ≡ r.place
  pub nowhere : StandsIn js r → ⊥

-- the first of these receipts that stands in none of the journals is of this place
pub record IsFirstLost (js : List Journal) (rs : List Receipt) (place : ℕ) : Type 0 where
  pub index : ℕ
  pub there : index < length rs
  pub lost : HoldsAt (IsLost js place) rs index
  pub others : AllWithin (StandsIn js) rs 0 index

-- the first of these receipts that stands in no journal of the copies, which began as these, is of this place
pub record IsLostBy (began : List Copy) (rs : List Receipt) (place : ℕ) : Type 0 where
  pub journals : List Journal
  pub own : AllZip IsOwnFrom began journals
  pub first : IsFirstLost journals rs place

-- the place that a fault names; nothing of one that isn't `Stray`
abbrev pub stray_in : ClusterFault → Option ℕ
stray_in NoMemory = None
stray_in NoSeat = None
stray_in (OfCopy f) = None
stray_in (Master f) = None
stray_in (Stray place) = Some place
stray_in Running = None
stray_in (Unopened tried) = None
