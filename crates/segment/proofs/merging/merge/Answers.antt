use Rattle.std.proofs.Common.{◌∙◌, ap, List, ℕ}
use Rattle.std.proofs.lemmas.List.{take_all}
use Rattle.std.specs.Arc.{arc_value}
use Rattle.segment.specs.Indexed.{SegmentData}
use Rattle.segment.specs.Merged.{live_sources}
use Rattle.segment.proofs.merging.merge.Goals as goal

-- the sources are those that are live
pub returns : goal.returns
returns c =
    let m = arc_value c.args.mapping.now in
    let ps = c.args.parts.now in
    c.in_ok-segment.ensures ∙ ap (λ (ss : List (List ℕ)). let s : SegmentData = record { mapping = m; sources = ss } in s) (c.loop-part.invariant ∙ ap live_sources (take_all c.loop-part.part-index ps c.loop-part-test.false))
