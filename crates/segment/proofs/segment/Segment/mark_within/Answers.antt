use Rattle.std.proofs.Common.{ap, ◌∙◌, List, Bool, ◌||◌, ◌&&◌}
use Rattle.std.specs.List.{list_any}
use Rattle.doc.specs.Document.{all_values}
use Rattle.analysis.specs.Terms.{is_within, terms_at}
use Rattle.analysis.specs.BoundsView.{bounds_view}
use Rattle.marks.specs.Lists.{zip_with}
use Rattle.segment.specs.Term.{is_long, is_truth}
use Rattle.segment.proofs.Columns.{unmapped, none_any}
use Rattle.segment.proofs.Withins.{kinds-end}
use Rattle.segment.proofs.segment.Segment.mark_within.Goals as goal

-- the three kinds one after another
pub returns-in-Some : goal.returns-in-Some
returns-in-Some c =
    let m = c.args.self.now.mapping in
    let name = c.args.name.now in
    let sources = c.args.self.now.sources in
    let asked = is_within (bounds_view c.args.bounds.now) in
    c.mark_truths.ensures
    ∙ ap (λ (bs : List Bool). zip_with (λ b s. b || list_any (λ t. is_truth t && asked t) (terms_at m.fields (all_values m s) name)) bs sources)
    (c.mark_longs.ensures.is ∙ ap (λ (bs : List Bool). zip_with (λ b s. b || list_any (λ t. is_long t && asked t) (terms_at m.fields (all_values m s) name)) bs sources) c.mark_texts.ensures.is)
    ∙ kinds-end m c.args.marks.now sources c.requires name asked

-- a field without a column has no term
pub returns-in_default : goal.returns-in_default
returns-in_default c =
    let m = c.args.self.now.mapping in
    unmapped m c.args.marks.now c.args.self.now.sources c.requires c.args.name.now
    (λ d. list_any (is_within (bounds_view c.args.bounds.now)) (terms_at m.fields d c.args.name.now)) (none_any m.fields c.args.name.now (is_within (bounds_view c.args.bounds.now))) c.in_default.ensures
