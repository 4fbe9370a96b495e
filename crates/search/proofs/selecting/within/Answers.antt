use Rattle.std.proofs.Common.{◌∙◌, ap, false, List, ℕ, Bool, ◌||◌}
use Rattle.std.specs.List.{list_any}
use Rattle.analysis.specs.Terms as spec
use Rattle.analysis.specs.BoundsView.{bounds_view}
use Rattle.marks.specs.Lists.{zip_with}
use Rattle.segment.proofs.Joins.{zip-self}
use Rattle.search.proofs.selecting.within.Goals as goal

pub returns : goal.returns
returns c = let m = c.args.segment.now.mapping in
    c.mark_within.ensures ∙ ap (λ (bs : List Bool). zip_with (λ b s. b || list_any (spec.is_within (bounds_view c.args.bounds.now)) (spec.terms m s c.args.name.now)) bs c.args.segment.now.sources) c.in_ok-marks.ensures ∙ zip-self (λ b s. b || list_any (spec.is_within (bounds_view c.args.bounds.now)) (spec.terms m s c.args.name.now)) (λ (s : List ℕ). false) c.args.segment.now.sources
