use Rattle.std.proofs.Common.{◌∙◌, ap, false, List, ℕ, Bool, ◌||◌}
use Rattle.doc.specs.Document.{all_values}
use Rattle.doc.specs.ScalarView.{scalar_view}
use Rattle.marks.specs.Lists.{zip_with}
use Rattle.segment.specs.Indexed.{has_term}
use Rattle.segment.proofs.Joins.{zip-self}
use Rattle.search.proofs.selecting.known_term.Goals as goal

pub returns : goal.returns
returns c = let m = c.args.known.now.segment.now.mapping in
    c.mark_term.ensures ∙ ap (λ (bs : List Bool). zip_with (λ b s. b || has_term m.fields c.args.name.now (scalar_view c.args.value.now) (all_values m s)) bs c.args.known.now.segment.now.sources) c.in_ok-marks.ensures ∙ zip-self (λ b s. b || has_term m.fields c.args.name.now (scalar_view c.args.value.now) (all_values m s)) (λ (s : List ℕ). false) c.args.known.now.segment.now.sources
