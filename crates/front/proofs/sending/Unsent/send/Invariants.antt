use Rattle.std.proofs.Common.{◌≡◌}
use Rattle.front.proofs.sending.Unsent.send.Given as goal

-- nothing is written yet
abbrev pub invariant-loop : goal.invariant-loop
invariant-loop g l = (l.self ≡ l.fn.self) × (l.writer ≡ l.fn.writer)
