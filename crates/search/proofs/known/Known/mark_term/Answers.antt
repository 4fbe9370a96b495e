use Rattle.std.proofs.Common.{◌∙◌, ap, List, ℕ, Bool, ◌||◌}
use Rattle.doc.specs.Document.{all_values}
use Rattle.doc.specs.ScalarView.{scalar_view}
use Rattle.marks.specs.Lists.{zip_with, marked}
use Rattle.segment.specs.Indexed.{has_term}
use Rattle.segment.proofs.Zips.{marked-zip, zip-test}
use Rattle.search.proofs.Postings.{within-live}
use Rattle.search.proofs.known.Known.mark_term.Goals as goal

-- the places are those of documents
pub mark-requires : goal.mark-requires
mark-requires c =
    let d = c.args.self.now.segment.now in
    let test : List ℕ → Bool = λ s. has_term d.mapping.fields c.args.name.now (scalar_view c.args.value.now) (all_values d.mapping s) in
    within-live test d.sources c.args.marks.now c.in-Some.listed.now c.requires c.in-Some.ensures

pub returns-in-None-find : goal.returns-in-None-find
returns-in-None-find c =
    let d = c.args.self.now.segment.now in
    let test : List ℕ → Bool = λ s. has_term d.mapping.fields c.args.name.now (scalar_view c.args.value.now) (all_values d.mapping s) in
    c.mark.ensures ∙ ap (marked c.args.marks.now) c.in-Some.ensures ∙ marked-zip test c.args.marks.now d.sources c.requires

-- the marks that are kept are those of the documents
pub returns-in-Some-find : goal.returns-in-Some-find
returns-in-Some-find c =
    let d = c.args.self.now.segment.now in
    let test : List ℕ → Bool = λ s. has_term d.mapping.fields c.args.name.now (scalar_view c.args.value.now) (all_values d.mapping s) in
    c.unite.ensures ∙ ap (zip_with (λ a b. a || b) c.args.marks.now) c.in-Some-find.ensures ∙ zip-test (λ a b. a || b) test c.args.marks.now d.sources
