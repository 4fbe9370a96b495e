use Rattle.std.proofs.Common.{◌≡◌, ◌<◌, ℕ, length, get_or, take}
use Rattle.engine.specs.IdTables.{count_at}
use Rattle.engine.proofs.operations.latest.counts_of.Given as goal

-- those so far
abbrev pub invariant-loop-pair : goal.invariant-loop-pair
invariant-loop-pair l = (length l.counts.items ≡ l.len) × ((p : ℕ) → p < l.len → get_or l.counts.items p 0 ≡ count_at l.len p (take l.pair-index l.numbers))
