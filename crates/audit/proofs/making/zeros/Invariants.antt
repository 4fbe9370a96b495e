use Rattle.std.proofs.Common.{◌≡◌, ℕ, length, get_or}
use Rattle.audit.proofs.making.zeros.Given as goal

-- so many zeros so far
abbrev pub invariant-loop : goal.invariant-loop
invariant-loop l = (length l.items.items ≡ l.counter) × ((i : ℕ) → get_or l.items.items i 0 ≡ 0)
