use Rattle.std.proofs.Common.{◌≡◌, take}
use Rattle.std.specs.Prelude.{map}
use Rattle.op.specs.Ids.{without}
use Rattle.replica.proofs.state.State.messages.Given as goal

-- so far, those to the copies so far
abbrev pub invariant-loop-id : goal.invariant-loop-id
invariant-loop-id l = l.items.items ≡ map (λ r. record { from = l.self.copy.id; to = r; term = l.term; content = l.content }) (without (take l.id-index l.id-items) l.self.copy.id)
