-- A promotion has a message.
use Rattle.std.proofs.Common.{◌≡◌, ℕ, Bool, true, false, List, [], ◌∷◌, if◌then◌else◌, Some, None, Ok, Err, ap}
use Rattle.std.specs.Prelude.{IfNone}
use Rattle.op.specs.declared.message.Msg.{Msg}
use Rattle.master.specs.declared.fault.MasterFault.{MasterFault}
use Rattle.master.specs.declared.state.State.{State}
use Rattle.master.specs.declared.state.Request.TheVariants.{Promote}
use Rattle.master.specs.Decide.{Decided, MasterStep, unless, decides, master_step}

abbrev taken : Decided → MasterStep
taken x = Ok x

from_ok : (x d : Decided) → taken x ≡ Ok d → d ≡ x
from_ok x d is = cc

-- an accepted promotion has just the message of the table
pub sends : (fs : List (Bool × MasterFault)) (m : State) (x : Msg) (d : Decided) → unless fs (decides m None (Some x) false) ≡ Ok d → d.decision.sent ≡ Some x
unfolding unless
sends [] m x d is = ap (λ (e : Decided). e.decision.sent) (from_ok _ d is)
sends (f ∷ fs) m x d is = elim f.0 as (λ b. (if b then Err f.1 else unless fs (decides m None (Some x) false)) ≡ Ok d → d.decision.sent ≡ Some x) [ true ↦ λ e. absurd (cc) | false ↦ λ e. sends fs m x d e ] is

pub always_sent : (X : Type 0) (m : State) (r : ℕ) (d : Decided) → master_step m (Promote r) ≡ Ok d → IfNone d.decision.sent X
always_sent X m r d is = let sent = sends _ _ _ d is in rw sent tt
