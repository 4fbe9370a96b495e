use Rattle.std.proofs.Common.{◌≡◌, ◌≤◌, ◌+◌, drop, length}
use Rattle.std.specs.List.{dedup, dedup_from}
use Rattle.std.specs.Map.{keys_of}
use Rattle.segment.proofs.listing.distinct.Given as goal

-- those before the last key, and those from there
abbrev pub invariant-loop-pair : goal.invariant-loop-pair
invariant-loop-pair g l = record {
  all : l.before + length (dedup_from g.K.PartialEq.eq l.last (keys_of (drop l.pair-index l.rest))) ≡ length (dedup g.K.PartialEq.eq (keys_of l.fn.pairs));
  few : l.before ≤ l.pair-index;
}
