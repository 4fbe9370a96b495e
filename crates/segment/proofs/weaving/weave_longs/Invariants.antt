use Rattle.std.specs.List.{IsDistinct}
use Rattle.std.specs.Map.{keys_of}
use Rattle.std.specs.Ordering.{eq_by_cmp, int_cmp, int_eq}
use Rattle.segment.specs.Posted.{places_so_far_long}
use Rattle.segment.proofs.TurnLaws.{AreTurns}
use Rattle.segment.proofs.WeavingLaws.{IsMerged}
use Rattle.segment.proofs.weaving.weave_longs.Given as goal

-- each number waits or has its places
abbrev pub invariant-loop-number : goal.invariant-loop-number
invariant-loop-number l = record {
  once : IsDistinct (eq_by_cmp int_cmp) (keys_of l.number-iterator);
  turns : AreTurns int_eq (IsMerged l.to) l.numbers.entries (places_so_far_long l.fn.longs) l.number-iterator (places_so_far_long l.longs);
}
