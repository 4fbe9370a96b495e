use Rattle.std.proofs.Common.{◌≡◌, ◌∷◌, ◌++◌, length}
use Rattle.std.specs.BTreeMap.{is_at}
use Rattle.std.specs.List.{dedup, dedup_from}
use Rattle.std.specs.Map.{keys_of}
use Rattle.segment.specs.Places.{places_listed}
use Rattle.segment.proofs.listing.put_together.Given as goal

-- what is closed and what is left have all places, and each key of the first pairs once
abbrev pub invariant-loop-pair : goal.invariant-loop-pair
invariant-loop-pair g l = record {
  same : (q : g.row.K.Denot) → places_listed (is_at (g.K.Ord.cmp q)) (l.closed.items ++ l.last ∷ l.pair-iterator.rest.items) ≡ places_listed (is_at (g.K.Ord.cmp q)) l.fn.pairs.items;
  once : keys_of l.closed.items ++ dedup_from g.K.PartialEq.eq l.last.0 (keys_of l.pair-iterator.rest.items) ≡ dedup g.K.PartialEq.eq (keys_of l.fn.pairs.items);
  len : l.pair-iterator.rest.len ≡ length l.pair-iterator.rest.items;
}
