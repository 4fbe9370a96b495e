use Rattle.std.specs.List.{IsDistinct}
use Rattle.std.specs.Map.{keys_of}
use Rattle.std.specs.Ordering.{eq_by_cmp}
use Rattle.std.specs.String.{string_cmp}
use Rattle.segment.specs.Added.{making_at, AreLong}
use Rattle.segment.proofs.TurnLaws.{is_at_text, AreTurns}
use Rattle.segment.proofs.WeavingLaws.{IsWovenIn}
use Rattle.segment.proofs.weaving.weave_columns.Given as goal

-- each field waits or has what its column has
abbrev pub invariant-loop-name : goal.invariant-loop-name
invariant-loop-name l = record {
  once : IsDistinct (eq_by_cmp string_cmp) (keys_of l.name-iterator);
  turns : AreTurns is_at_text (IsWovenIn l.len l.to) l.columns.entries (making_at l.fn.makings) l.name-iterator (making_at l.makings);
  long : AreLong l.len l.makings;
}
