use Rattle.std.proofs.Common.{◌≡◌}
use Rattle.search.proofs.known.Known.+learn.Given as goal

-- the same segment
abbrev pub invariant-learn_each-loop-query : goal.invariant-learn_each-loop-query
invariant-learn_each-loop-query l = l.self.segment.now ≡ l.initial.self.segment.now
