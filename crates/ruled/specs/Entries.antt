-- The master's journal, as its entries.
use Rattle.std.specs.Prelude.{◌≡◌, ℕ, List, [], ◌∷◌, ◌++◌, map, Option, Some, None, Result, Ok, Err}
use Rattle.journal.specs.declared.journal.Journal.{Journal}
use Rattle.journal.specs.declared.journal.Journal.TheVariants.{OfMaster, OfCopy}
use Rattle.journal.specs.declared.journal.Ruling.{Ruling}
use Rattle.journal.specs.Lawful.{begins_open}
use Rattle.journal.specs.Rulings.{AreLegal, ruler_after}
use Rattle.master.specs.declared.fault.MasterFault.{MasterFault}
use Rattle.master.specs.declared.state.Decision.{Decision}
use Rattle.master.specs.declared.state.Request.{Request}
use Rattle.master.specs.declared.state.State.{State}
use Rattle.ruled.specs.declared.entry.MasterEntry.{MasterEntry}
use Rattle.ruled.specs.declared.entry.MasterEntry.TheVariants.{Opened, Answered}

-- what the master was when its journal began, and then each request with its answer
abbrev pub entries_of : State → List Ruling → List MasterEntry
entries_of s rs = Opened s ∷ map (λ r. Answered r) rs

abbrev pub ruling : ℕ → Request → Result Decision MasterFault → Ruling
ruling pass request answer = record { pass = pass; request = request; answer = answer }

-- the entries of a legal journal of the master
pub record AreMasters (entries : List MasterEntry) : Type 0 where
  pub opening : State
  pub rulings : List Ruling
  pub are : entries ≡ entries_of opening rulings
  pub legal : AreLegal (begins_open opening) rulings

-- what the master knows after these entries of its legal journal
pub record IsKnown (entries : List MasterEntry) (s : State) : Type 0 where
  pub opening : State
  pub rulings : List Ruling
  pub are : entries ≡ entries_of opening rulings
  pub legal : AreLegal (begins_open opening) rulings
  pub knows : (ruler_after (begins_open opening) rulings).state ≡ s

-- the copy is the primary after these entries
pub record IsLeading (entries : List MasterEntry) (copy : ℕ) : Type 0 where
  pub state : State
  pub known : IsKnown entries state
  pub leads : copy ≡ state.primary

-- the decision is the answer to the request in the last of these entries of a legal journal of the master
pub record IsDecided (request : Request) (decision : Decision) (entries : List MasterEntry) : Type 0 where
  pub before : List MasterEntry
  pub pass : ℕ
  pub last : entries ≡ before ++ Answered (ruling pass request (Ok decision)) ∷ []
  pub masters : AreMasters entries

-- the journal has these entries
abbrev pub IsJournalOf : List MasterEntry → Journal → Type 0
IsJournalOf entries (OfMaster opening rulings) = entries ≡ entries_of opening rulings
IsJournalOf entries (OfCopy opening deeds) = ⊥

-- what the master was by the last entry that says it
abbrev pub opened_after : Option State → List MasterEntry → Option State
opened_after o [] = o
opened_after o (Opened s ∷ es) = opened_after (Some s) es
opened_after o (Answered r ∷ es) = opened_after o es

-- the requests with their answers
abbrev pub rulings_in : List MasterEntry → List Ruling
rulings_in [] = []
rulings_in (Opened s ∷ es) = rulings_in es
rulings_in (Answered r ∷ es) = r ∷ rulings_in es

-- the journal that begins so, with these requests
abbrev pub IsGathered : Option State → List Ruling → Option Journal → Type 0
IsGathered None rs o = o ≡ None
IsGathered (Some s) rs o = o ≡ Some (OfMaster s rs)
