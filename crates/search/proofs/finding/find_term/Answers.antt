use Rattle.std.proofs.Common.{◌≡◌, ℕ, Bool, false, IfOk, List, filter, length, subst, take, get_or, ◌∙◌, ap}
use Rattle.doc.specs.Document.{all_values}
use Rattle.doc.specs.ScalarView.{scalar_view}
use Rattle.segment.specs.Indexed.{has_term}
use Rattle.search.proofs.Postings.{live-places, within-live}
use Rattle.search.proofs.finding.find_term.Goals as goal

-- the places are those of documents
pub first_live-requires : goal.first_live-requires
first_live-requires c =
    let m = c.args.segment.now.mapping in
    let test : List ℕ → Bool = λ s. has_term m.fields c.args.name.now (scalar_view c.args.value.now) (all_values m s) in
    within-live test c.args.segment.now.sources c.args.live.now c.in-Some.places.now c.requires c.in-Some.ensures

-- the live ones among them are the live documents
pub returns-in-Some-clause-total : goal.returns-in-Some-clause-total
returns-in-Some-clause-total c =
    let m = c.args.segment.now.mapping in
    let test : List ℕ → Bool = λ s. has_term m.fields c.args.name.now (scalar_view c.args.value.now) (all_values m s) in
    let live = c.args.live.now in
    let same = ap (filter (λ p. get_or live p false)) c.in-Some.ensures ∙ live-places test c.args.segment.now.sources live c.requires in
    subst (λ (ps : List ℕ). IfOk c.first_live.result (λ f. f.total ≡ length ps)) same c.first_live.ensures.total

pub returns-in-Some-clause-first : goal.returns-in-Some-clause-first
returns-in-Some-clause-first c =
    let m = c.args.segment.now.mapping in
    let test : List ℕ → Bool = λ s. has_term m.fields c.args.name.now (scalar_view c.args.value.now) (all_values m s) in
    let live = c.args.live.now in
    let same = ap (filter (λ p. get_or live p false)) c.in-Some.ensures ∙ live-places test c.args.segment.now.sources live c.requires in
    subst (λ (ps : List ℕ). IfOk c.first_live.result (λ f. f.first.items ≡ take c.args.wanted ps)) same c.first_live.ensures.first
