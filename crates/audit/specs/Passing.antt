-- Whether a journal passes: it begins as its node does, and its entries are legal.
use Rattle.std.specs.Prelude.{◌≡◌, ◌⊎◌, ℕ, List, Option, Some, None}
use Rattle.doc.specs.Mapping.{MappingData}
use Rattle.master.specs.State.{begun}
use Rattle.audit.specs.declared.fault.AuditFault.{AuditFault}
use Rattle.audit.specs.declared.fault.AuditFault.TheVariants.{Differs, NoMemory as OutOfMemory}
use Rattle.journal.specs.declared.journal.Journal.{Journal}
use Rattle.journal.specs.declared.journal.Journal.TheVariants.{OfMaster as of_master, OfCopy as of_copy}
use Rattle.audit.specs.declared.judge.Wrong.{Wrong}
use Rattle.audit.specs.declared.judge.Wrong.TheVariants.{At, NoMemory}
use Rattle.journal.specs.declared.moves.Placed.{Placed}
use Rattle.audit.specs.Audit.{placed_in, IsFirstWrong, IsOpening}
use Rattle.journal.specs.Lawful.{IsLawful}

-- the journal's copy, where it is one's, has this mapping
abbrev pub IsOfMapping : MappingData → Journal → Type 0
IsOfMapping mapping (of_master s rs) = Unit {0}
IsOfMapping mapping (of_copy c ds) = c.mapping ≡ mapping

-- the master's journal, which comes first, begins as the master of an index of n copies
abbrev pub IsCount : Option Journal → ℕ → Type 0
IsCount None n = Unit {0}
IsCount (Some (of_master s rs)) n = s ≡ begun n
IsCount (Some (of_copy c ds)) n = ⊥

-- the journal of node i passes in an index of n copies, and these are its moves
pub record IsPassing (mapping : MappingData) (n i : ℕ) (j : Journal) (ps : List Placed) : Type 0 where
  pub opening : IsOpening mapping n i j
  pub lawful : IsLawful j
  pub moves : ps ≡ placed_in j

-- it begins otherwise, or its first entry that isn't legal is at that place
abbrev pub IsFailing : MappingData → ℕ → ℕ → Journal → Wrong → Type 0
IsFailing mapping n i j (At at) = ((IsOpening mapping n i j → ⊥) × (at ≡ 0)) ⊎ (IsOpening mapping n i j × IsFirstWrong j at)
IsFailing mapping n i j NoMemory = Unit {0}

-- what an audit answers then
abbrev pub fault_at : ℕ → Wrong → AuditFault
fault_at node (At at) = Differs node at
fault_at node NoMemory = OutOfMemory
