use Rattle.std.proofs.Common.{◌≡◌, length, take}
use Rattle.doc.specs.Scalar.{long}
use Rattle.analysis.specs.Terms.{is_within}
use Rattle.marks.specs.Lists.{marked}
use Rattle.segment.specs.Blocks.{hits, numbers_of}
use Rattle.segment.specs.Limits.{limits_view}
use Rattle.segment.proofs.segment.Segment.mark_numbers.Given as goal

-- the documents of the numbers of the blocks so far that pass are marked
abbrev pub invariant-loop-block : goal.invariant-loop-block
invariant-loop-block l = record {
  whole : length l.marks ≡ length l.initial.marks;
  marked : l.marks ≡ marked l.initial.marks (hits (λ z. is_within (limits_view l.limits) (long z)) (numbers_of (take l.block-index l.column.blocks.items)));
}
