use Rattle.std.proofs.Common.{◌≡◌, ℕ, Bool, IfOk, List, length, subst, take}
use Rattle.doc.specs.Document.{all_values}
use Rattle.doc.specs.ScalarView.{scalar_view}
use Rattle.segment.specs.Indexed.{has_term}
use Rattle.search.proofs.Wholes.{places-tested}
use Rattle.search.proofs.whole.all_with_term.Goals as goal

pub returns-in_ok-marks-in-None-clause-total : goal.returns-in_ok-marks-in-None-clause-total
returns-in_ok-marks-in-None-clause-total c =
    let m = c.args.segment.now.mapping in
    let test : List ℕ → Bool = λ s. has_term m.fields c.args.name.now (scalar_view c.args.value.now) (all_values m s) in
    subst (λ (ps : List ℕ). IfOk c.first_marked.result (λ f. f.total ≡ length ps)) (places-tested test c.args.segment.now.sources c.in_ok-marks-in-None.marks c.in_ok-marks-in-None.ensures) c.first_marked.ensures.total

pub returns-in_ok-marks-in-None-clause-first : goal.returns-in_ok-marks-in-None-clause-first
returns-in_ok-marks-in-None-clause-first c =
    let m = c.args.segment.now.mapping in
    let test : List ℕ → Bool = λ s. has_term m.fields c.args.name.now (scalar_view c.args.value.now) (all_values m s) in
    subst (λ (ps : List ℕ). IfOk c.first_marked.result (λ f. f.first.items ≡ take c.args.wanted ps)) (places-tested test c.args.segment.now.sources c.in_ok-marks-in-None.marks c.in_ok-marks-in-None.ensures) c.first_marked.ensures.first
