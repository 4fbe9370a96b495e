-- A new index.
use Rattle.std.proofs.Common.{◌≡◌, ℕ, List, [], Ok, Result, refl, sym, ◌∙◌}
use Rattle.master.specs.declared.state.State.{State}
use Rattle.master.specs.Logged.{begun_state}
use Rattle.master.specs.State.{begun}
use Rattle.translog.specs.Fault.{Fault}
use Rattle.translog.specs.Frames.{contents_in, contents_of}

begun_empty : (n : ℕ) → begun_state n [] ≡ Ok (begun n)
unfolding begun_state contents_in contents_of
begun_empty n = refl

same_state : (a b : State) → (let r : Result State Fault = Ok a in r) ≡ Ok b → b ≡ a
same_state a b e = cc

-- the master of a log without bytes
pub begun_new : (n : ℕ) (bytes : List ℕ) (m : State) → bytes ≡ [] → begun_state n bytes ≡ Ok m → m ≡ begun n
begun_new n bytes m none e = let is : begun_state n [] ≡ Ok m = rw none at e in same_state (begun n) m (sym (begun_empty n) ∙ is)
