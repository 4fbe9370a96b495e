use Rattle.std.proofs.Common.{◌≡◌}
use Rattle.search.proofs.known.Known.keep_each.Given as goal

-- the same segment
abbrev pub invariant-loop-value : goal.invariant-loop-value
invariant-loop-value l = l.self.segment.now ≡ l.initial.self.segment.now
