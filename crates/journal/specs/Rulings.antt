-- What a journal says of the master: which answers may stand in it, and what the master did.
use Rattle.std.specs.Prelude.{◌≡◌, ℕ, suc, Bool, true, false, not, List, [], ◌∷◌, ◌++◌, IfSome, is_some, Result, Ok, Err}
use Rattle.master.specs.declared.fault.MasterFault.{MasterFault}
use Rattle.master.specs.declared.state.State.{State}
use Rattle.master.specs.declared.state.Request.{Request}
use Rattle.master.specs.declared.state.Decision.{Decision}
use Rattle.master.specs.Decide.{MasterStep, master_step}
use Rattle.master.specs.Fault.{fault_of, is_log}
use Rattle.journal.specs.declared.journal.Ruling.{Ruling}
use Rattle.journal.specs.declared.moves.Move.TheVariants.{Asks as asks}
use Rattle.journal.specs.declared.moves.Placed.{Placed}
use Rattle.journal.specs.Journal.{placed, moves_if}

-- the master as its journal says, and whether it is closed
pub record Ruler : Type 0 where
  pub state : State
  pub closed : Bool

abbrev pub ruled : State → MasterStep → State
ruled s (Ok d) = d.state
ruled s (Err e) = s

-- a decision is kept where something is new
abbrev pub keeps_decision : MasterStep → Bool
keeps_decision (Ok d) = not d.decision.repeated
keeps_decision (Err e) = false

abbrev pub MayDeny : State → Request → MasterFault → Bool → Type 0
MayDeny s request e true = keeps_decision (master_step s request) ≡ true
MayDeny s request e false = IfSome (fault_of e) (λ f. master_step s request ≡ Err f)

-- a closed master answers that its log failed
abbrev pub MayRule : State → Bool → Request → Result Decision MasterFault → Type 0
MayRule s false request (Ok decision) = master_step s request ≡ Ok (record { state = ruled s (master_step s request); decision = decision })
MayRule s false request (Err e) = MayDeny s request e (is_log e)
MayRule s true request (Ok decision) = ⊥
MayRule s true request (Err e) = is_log e ≡ true

abbrev pub ruled_at : State → Bool → Request → Result Decision MasterFault → Ruler
ruled_at s false request (Ok decision) = record { state = ruled s (master_step s request); closed = false }
ruled_at s false request (Err e) = record { state = s; closed = is_log e }
ruled_at s true request answer = record { state = s; closed = true }

abbrev pub next_ruler : Ruler → Ruling → Ruler
next_ruler s r = ruled_at s.state s.closed r.request r.answer

abbrev pub IsLegalRuling : Ruler → Ruling → Type 0
IsLegalRuling s r = MayRule s.state s.closed r.request r.answer

abbrev pub AreLegal : Ruler → List Ruling → Type 0
AreLegal s [] = Unit {0}
AreLegal s (r ∷ rs) = IsLegalRuling s r × AreLegal (next_ruler s r) rs

abbrev pub rulings_at : Bool → ℕ → Request → Result Decision MasterFault → List Placed
rulings_at false place request (Ok decision) = placed place (asks request) ∷ []
rulings_at false place request (Err e) = moves_if (is_some (fault_of e)) place (asks request)
rulings_at true place request answer = []

abbrev pub rulings : Ruler → ℕ → List Ruling → List Placed
rulings s place [] = []
rulings s place (r ∷ rs) = rulings_at s.closed place r.request r.answer ++ rulings (next_ruler s r) (suc place) rs

-- the master after all entries
abbrev pub ruler_after : Ruler → List Ruling → Ruler
ruler_after s [] = s
ruler_after s (r ∷ rs) = ruler_after (next_ruler s r) rs
