use Rattle.std.proofs.Common.{◌≡◌, ◌∙◌, ℕ, Bool, IfOk, List, true, ap, sym, length, subst, take}
use Rattle.std.proofs.lemmas.List.FromFn.{length-range_with_len}
use Rattle.query.specs.Meaning.{means}
use Rattle.query.specs.View.{query_view}
use Rattle.search.proofs.QueryViews.{view-all}
use Rattle.search.proofs.Postings.{alone-in}
use Rattle.search.proofs.Wholes.{places-every, places-tested, places-agree}
use Rattle.search.proofs.whole.find_all.Goals as goal

-- all documents
pub returns-in-MatchAll-clause-total : goal.returns-in-MatchAll-clause-total
returns-in-MatchAll-clause-total c =
    let test : List ℕ → Bool = λ s. means c.args.segment.now.mapping s (query_view c.args.query.now) in
    let every : (s : List ℕ) → test s ≡ true = λ s. ap (λ q. means c.args.segment.now.mapping s q) (ap query_view c.in-MatchAll.is ∙ view-all) in
    let n = c.len-count.result in
    subst (λ (k : ℕ). IfOk c.first_numbers.result (λ f. f.total ≡ k)) (sym (length-range_with_len 0 n) ∙ ap length (places-every test every c.args.segment.now.sources n c.len-count.ensures.is)) c.first_numbers.ensures.total

pub returns-in-MatchAll-clause-first : goal.returns-in-MatchAll-clause-first
returns-in-MatchAll-clause-first c =
    let test : List ℕ → Bool = λ s. means c.args.segment.now.mapping s (query_view c.args.query.now) in
    let every : (s : List ℕ) → test s ≡ true = λ s. ap (λ q. means c.args.segment.now.mapping s q) (ap query_view c.in-MatchAll.is ∙ view-all) in
    subst (λ (ps : List ℕ). IfOk c.first_numbers.result (λ f. f.first.items ≡ take c.args.wanted ps)) (places-every test every c.args.segment.now.sources c.len-count.result c.len-count.ensures.is) c.first_numbers.ensures.first

pub returns-in_ok-marks-in_default-clause-total : goal.returns-in_ok-marks-in_default-clause-total
returns-in_ok-marks-in_default-clause-total c =
    let test : List ℕ → Bool = λ s. means c.args.segment.now.mapping s (query_view c.args.query.now) in
    subst (λ (ps : List ℕ). IfOk c.first_marked.result (λ f. f.total ≡ length ps)) (places-tested test c.args.segment.now.sources c.in_ok-marks-in_default.marks c.in_ok-marks-in_default.ensures) c.first_marked.ensures.total

pub returns-in_ok-marks-in_default-clause-first : goal.returns-in_ok-marks-in_default-clause-first
returns-in_ok-marks-in_default-clause-first c =
    let test : List ℕ → Bool = λ s. means c.args.segment.now.mapping s (query_view c.args.query.now) in
    subst (λ (ps : List ℕ). IfOk c.first_marked.result (λ f. f.first.items ≡ take c.args.wanted ps)) (places-tested test c.args.segment.now.sources c.in_ok-marks-in_default.marks c.in_ok-marks-in_default.ensures) c.first_marked.ensures.first

-- one token alone is a term
pub returns-in-Match-clause-total : goal.returns-in-Match-clause-total
returns-in-Match-clause-total c =
    subst (λ (ps : List ℕ). IfOk c.all_with_term-in-Match.result (λ f. f.total ≡ length ps))
    (places-agree _ _ (alone-in c.args.segment.now.mapping c.deref-in-Match.result.now c.args.query.now c.in-Match.field _ c.in-Match.tokens c.index.result.now c.in-Match.is c.deref-in-Match.ensures (sym c.len.ensures ∙ c.if-len-eq1.true) c.index.ensures) c.args.segment.now.sources) c.all_with_term-in-Match.ensures.total

pub returns-in-Match-clause-first : goal.returns-in-Match-clause-first
returns-in-Match-clause-first c =
    subst (λ (ps : List ℕ). IfOk c.all_with_term-in-Match.result (λ f. f.first.items ≡ take c.args.wanted ps))
    (places-agree _ _ (alone-in c.args.segment.now.mapping c.deref-in-Match.result.now c.args.query.now c.in-Match.field _ c.in-Match.tokens c.index.result.now c.in-Match.is c.deref-in-Match.ensures (sym c.len.ensures ∙ c.if-len-eq1.true) c.index.ensures) c.args.segment.now.sources) c.all_with_term-in-Match.ensures.first
