use Rattle.std.proofs.Common.{◌∙◌, ap, false, List, ℕ, Bool, ◌||◌}
use Rattle.std.specs.List.{list_any}
use Rattle.analysis.specs.Terms as spec
use Rattle.marks.specs.Lists.{zip_with}
use Rattle.segment.proofs.Joins.{zip-self}
use Rattle.search.proofs.selecting.with_prefix.Goals as goal

pub returns : goal.returns
returns c = let m = c.args.segment.now.mapping in
    c.in_ok-mark_prefix.ensures ∙ ap (λ (bs : List Bool). zip_with (λ b s. b || list_any (spec.begins_with c.args.text.now) (spec.terms m s c.args.name.now)) bs c.args.segment.now.sources) c.in_ok-marks.ensures ∙ zip-self (λ b s. b || list_any (spec.begins_with c.args.text.now) (spec.terms m s c.args.name.now)) (λ (s : List ℕ). false) c.args.segment.now.sources
