use Rattle.std.specs.List.{IsDistinct}
use Rattle.std.specs.Map.{keys_of}
use Rattle.std.specs.Ordering.{eq_by_cmp}
use Rattle.std.specs.String.{string_cmp}
use Rattle.segment.specs.Posted.{places_so_far}
use Rattle.segment.proofs.TurnLaws.{is_at_text, AreTurns}
use Rattle.segment.proofs.WeavingLaws.{IsMerged}
use Rattle.segment.proofs.weaving.weave_texts.Given as goal

-- each text waits or has its places
abbrev pub invariant-loop-word : goal.invariant-loop-word
invariant-loop-word l = record {
  once : IsDistinct (eq_by_cmp string_cmp) (keys_of l.word-iterator);
  turns : AreTurns is_at_text (IsMerged l.to) l.words.entries (places_so_far l.fn.texts) l.word-iterator (places_so_far l.texts);
}
