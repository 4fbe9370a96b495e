use Rattle.std.proofs.Common.{◌≡◌, ◌&&◌, ℕ, length, slice_index, slice_index_or, nat_lt, nat_le, false}
use Rattle.search.proofs.counts.at_least.Given as goal

-- those before are marked where the count is enough
abbrev pub invariant-loop-at : goal.invariant-loop-at
invariant-loop-at l = record {
  whole : length l.marks ≡ length l.counts;
  each : (k : ℕ) → slice_index_or l.marks k false ≡ (nat_lt k l.at && nat_le l.wanted (slice_index l.counts k));
}
