use Rattle.std.proofs.Common.{ℕ, ◌≤◌}
use Rattle.audit.specs.Causes.{IsLet}
use Rattle.audit.proofs.stage.Making.far.Given as goal

-- none of the messages so far is one
abbrev pub invariant-loop-place : goal.invariant-loop-place
invariant-loop-place l = (k : ℕ) → k ≤ l.place → IsLet l.self.world.world k l.next → ⊥
