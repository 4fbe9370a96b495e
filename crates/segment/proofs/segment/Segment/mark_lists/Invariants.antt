use Rattle.std.proofs.Common.{◌≡◌, map}
use Rattle.std.specs.Map.Iter.{deref_pair}
use Rattle.analysis.specs.Terms.{is_within}
use Rattle.analysis.specs.BoundsView.{bounds_view}
use Rattle.segment.proofs.Withins.{so_far, long_hit}
use Rattle.segment.proofs.segment.Segment.mark_lists.Given as goal

-- the documents of the keys so far that pass are marked
abbrev pub invariant-loop-number : goal.invariant-loop-number
invariant-loop-number l = l.marks ≡ so_far (long_hit l.self.mapping l._name (is_within (bounds_view l.bounds))) l.initial.marks l.self.sources (map deref_pair l.yielded)
