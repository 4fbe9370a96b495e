use Rattle.std.proofs.Common.{◌≡◌}
use Rattle.replica.specs.Copy.{operations}
use Rattle.replica.proofs.Tails.{filled, numbered, numbers}
use Rattle.replica.proofs.state.State.tail.Given as goal

-- those at the numbers so far
abbrev pub invariant-loop-number : goal.invariant-loop-number
invariant-loop-number l = l.items.items ≡ numbers (filled (operations l.self.copy) l.term) (numbered (operations l.self.copy) l.term) l.self.copy.known l.number
