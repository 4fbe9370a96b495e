use Rattle.std.proofs.Common.{◌≡◌, length, take}
use Rattle.doc.specs.Scalar.{long}
use Rattle.analysis.specs.Terms.{is_within}
use Rattle.marks.specs.Lists.{marked}
use Rattle.segment.specs.Blocks.{hits}
use Rattle.segment.specs.Limits.{limits_view}
use Rattle.segment.proofs.blocks.mark_each.Given as goal

-- the places of the numbers so far that pass are marked
abbrev pub invariant-loop-number : goal.invariant-loop-number
invariant-loop-number l = record {
  whole : length l.marks ≡ length l.initial.marks;
  marked : l.marks ≡ marked l.initial.marks (hits (λ z. is_within (limits_view l.limits) (long z)) (take l.number-index l.numbers));
}
