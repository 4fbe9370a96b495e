use Rattle.std.proofs.Common.{◌≡◌, ◌≤◌, filter, length, slice_index_or, take, false}
use Rattle.search.proofs.posted.first_live.Given as goal

-- the live ones so far
abbrev pub invariant-loop-place : goal.invariant-loop-place
invariant-loop-place l = record {
  total : l.total ≡ length (filter (λ p. slice_index_or l.live p false) (take l.place-index l.places));
  few : l.total ≤ l.place-index;
  first : l.first.items ≡ take l.wanted (filter (λ p. slice_index_or l.live p false) (take l.place-index l.places));
}
