use Rattle.std.proofs.Common.{◌≡◌, ◌+◌, ◌&&◌, ℕ, length, slice_index, slice_index_or, nat_lt, false, if◌then◌else◌}
use Rattle.search.proofs.counts.add.Given as goal

-- those before are done, the others stand
abbrev pub invariant-loop-at : goal.invariant-loop-at
invariant-loop-at l = record {
  whole : length l.counts.items ≡ length l.initial.counts.items;
  each : (k : ℕ) → slice_index l.counts.items k ≡ (if (nat_lt k l.at && slice_index_or l.marks k false) then slice_index l.initial.counts.items k + 1 else slice_index l.initial.counts.items k);
}
