use Rattle.std.proofs.Common.{◌∙◌, ap, false, List, ℕ, Bool, ◌||◌}
use Rattle.doc.specs.Document.{all_values}
use Rattle.marks.specs.Lists.{zip_with}
use Rattle.segment.specs.Indexed.{has_value}
use Rattle.segment.proofs.Joins.{zip-self}
use Rattle.search.proofs.selecting.with_value.Goals as goal

pub returns : goal.returns
returns c = let m = c.args.segment.now.mapping in
    c.mark_exists.ensures ∙ ap (λ (bs : List Bool). zip_with (λ b s. b || has_value c.args.name.now (all_values m s)) bs c.args.segment.now.sources) c.in_ok-marks.ensures ∙ zip-self (λ b s. b || has_value c.args.name.now (all_values m s)) (λ (s : List ℕ). false) c.args.segment.now.sources
