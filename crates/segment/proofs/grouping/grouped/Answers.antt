use Rattle.std.proofs.Common.{◌∙◌, ap}
use Rattle.std.specs.BTreeMap.{is_at}
use Rattle.segment.specs.Grouped.{places_of_runs}
use Rattle.segment.proofs.GroupingLaws.{listed-runs, runs-sorted}
use Rattle.segment.proofs.grouping.grouped.Goals as goal

pub returns : goal.returns
returns g c = λ q.
    let passes = is_at (g.K.Ord.cmp q) in
    listed-runs passes c.in_ok-grouped.grouped.items ∙ ap (places_of_runs passes) c.in_ok-grouped.ensures
    ∙ runs-sorted g.met.K.Ord.total g.K.PartialEq.eq g.met.K.Ord.matches_eq q c.in_ok-sorted.sorted.items c.in_ok-sorted.ensures.sorted
    ∙ c.in_ok-sorted.ensures.same q
