-- The master with its journal.
use Rattle.std.specs.Prelude.{◌≡◌, ◌⊎◌, ℕ, Bool, true, List, [], ◌∷◌, ◌++◌, Option, Some, None, Result, Ok, Err}
use Rattle.chronicle.specs.Ledger.{LedgerData}
use Rattle.journal.specs.declared.journal.Ruling.{Ruling}
use Rattle.journal.specs.Lawful.{begins_open}
use Rattle.journal.specs.Rulings.{AreLegal, IsLegalRuling, next_ruler, ruler_after}
use Rattle.master.specs.declared.fault.MasterFault.{MasterFault}
use Rattle.master.specs.declared.fault.MasterFault.TheVariants.{OldTerm, NotInSync, IsPrimary, Gone, Log, NoMemory, Full}
use Rattle.master.specs.declared.state.Decision.{Decision}
use Rattle.master.specs.declared.state.Request.{Request}
use Rattle.master.specs.declared.state.State.{State}
use Rattle.master.specs.Log.{kept_state}
use Rattle.master.specs.Logged.{Logged}
use Rattle.ruled.specs.declared.entry.MasterEntry.{MasterEntry}
use Rattle.ruled.specs.declared.entry.MasterEntry.TheVariants.{Answered}
use Rattle.ruled.specs.Entries.{entries_of, ruling}

-- whether memory has the entries, these, the entry of a decision that its log failed to keep, and the master with its log
pub record RuledData : Type 0 where
  pub kept : Bool
  pub entries : List MasterEntry
  pub unsure : Option Ruling
  pub master : Logged

abbrev pub with_entries : Bool → List MasterEntry → Option Ruling → Logged → RuledData
with_entries kept entries unsure master = record { kept = kept; entries = entries; unsure = unsure; master = master }

abbrev pub with_journal : LedgerData MasterEntry → Option Ruling → Logged → RuledData
with_journal l unsure master = with_entries l.kept l.entries unsure master

-- the log has a decision that it failed to keep
pub record IsFound (s : State) (log : List ℕ) (r : Ruling) : Type 0 where
  pub legal : IsLegalRuling (begins_open s) r
  pub left : State
  pub after : next_ruler (begins_open s) r ≡ begins_open left
  pub kept : kept_state log ≡ Ok left

-- the log of a closed master keeps its state, or also the decision that it failed to keep
abbrev pub MayKeep : State → List ℕ → Option Ruling → Type 0
MayKeep s log None = kept_state log ≡ Ok s
MayKeep s log (Some r) = (kept_state log ≡ Ok s) ⊎ IsFound s log r

-- the journal is legal, and the master is what it says
pub record IsRuled (r : RuledData) : Type 0 where
  pub opening : State
  pub rulings : List Ruling
  pub are : r.entries ≡ entries_of opening rulings
  pub legal : AreLegal (begins_open opening) rulings
  pub after : ruler_after (begins_open opening) rulings ≡ begins_open r.master.state
  pub shut : r.master.closed ≡ true → MayKeep r.master.state r.master.log r.unsure

-- a closed master was opened again, and its log had the decision that failed
pub record IsEntered (old : RuledData) (entries : List MasterEntry) : Type 0 where
  pub closed : old.master.closed ≡ true
  pub entry : Ruling
  pub unsure : old.unsure ≡ Some entry
  pub more : entries ≡ old.entries ++ Answered entry ∷ []

-- nothing of the journal has changed, but that a decision is in it which a closed master's log has
pub record IsUnasked (old new : RuledData) : Type 0 where
  pub kept : new.kept ≡ old.kept
  pub entries : (new.entries ≡ old.entries) ⊎ IsEntered old new.entries

-- one request is one entry more
pub record IsRuling (old new : RuledData) (pass : ℕ) (request : Request) (answer : Result Decision MasterFault) : Type 0 where
  pub kept : new.kept ≡ old.kept
  pub before : List MasterEntry
  pub unasked : (before ≡ old.entries) ⊎ IsEntered old before
  pub entries : new.entries ≡ before ++ Answered (ruling pass request answer) ∷ []

-- a refusal is an entry too, except where memory runs out or the log fails
abbrev pub IsUnruled : RuledData → RuledData → ℕ → Request → MasterFault → Type 0
IsUnruled old new pass request OldTerm = IsRuling old new pass request (Err OldTerm)
IsUnruled old new pass request NotInSync = IsRuling old new pass request (Err NotInSync)
IsUnruled old new pass request IsPrimary = IsRuling old new pass request (Err IsPrimary)
IsUnruled old new pass request Gone = IsRuling old new pass request (Err Gone)
IsUnruled old new pass request (Log f) = IsUnasked old new
IsUnruled old new pass request Full = IsRuling old new pass request (Err Full)
IsUnruled old new pass request NoMemory = IsUnasked old new
