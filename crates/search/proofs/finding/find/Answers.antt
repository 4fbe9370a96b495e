use Rattle.std.proofs.Common.{◌≡◌, ◌∙◌, sym, ◌&&◌, ℕ, List, true, ap, subst, length, take, Bool, IfOk}
use Rattle.query.specs.Meaning.{means}
use Rattle.query.specs.View.{query_view}
use Rattle.marks.specs.Lists.{places, zip_with}
use Rattle.marks.proofs.Views.{map_all}
use Rattle.search.proofs.Postings.{alone-in}
use Rattle.search.proofs.Bools.{all_live}
use Rattle.search.proofs.QueryViews.{view-all}
use Rattle.search.proofs.finding.find.Goals as goal

-- all live documents
pub returns-in-MatchAll-clause-total : goal.returns-in-MatchAll-clause-total
returns-in-MatchAll-clause-total c =
    let test : List ℕ → Bool = λ s. means c.args.segment.now.mapping s (query_view c.args.query.now) in
    let every : (s : List ℕ) → test s ≡ true = λ s. ap (λ q. means c.args.segment.now.mapping s q) (ap query_view c.in-MatchAll.is ∙ view-all) in
    subst (λ (bs : List Bool). IfOk c.first_marked.result (λ f. f.total ≡ length (places (λ b. b) bs))) (all_live test every c.args.segment.now.sources c.args.live.now c.requires) c.first_marked.ensures.total

pub returns-in-MatchAll-clause-first : goal.returns-in-MatchAll-clause-first
returns-in-MatchAll-clause-first c =
    let test : List ℕ → Bool = λ s. means c.args.segment.now.mapping s (query_view c.args.query.now) in
    let every : (s : List ℕ) → test s ≡ true = λ s. ap (λ q. means c.args.segment.now.mapping s q) (ap query_view c.in-MatchAll.is ∙ view-all) in
    subst (λ (bs : List Bool). IfOk c.first_marked.result (λ f. f.first.items ≡ take c.args.wanted (places (λ b. b) bs))) (all_live test every c.args.segment.now.sources c.args.live.now c.requires) c.first_marked.ensures.first

-- one token alone is a term
pub returns-in-Match-clause-total : goal.returns-in-Match-clause-total
returns-in-Match-clause-total c =
    let m = c.args.segment.now.mapping in
    subst (λ (bs : List Bool). IfOk c.find_term-in-Match.result (λ f. f.total ≡ length (places (λ b. b) (zip_with (λ m l. m && l) bs c.args.live.now))))
    (map_all _ _ (alone-in m c.deref-in-Match.result.now c.args.query.now c.in-Match.field _ c.in-Match.tokens c.index.result.now c.in-Match.is c.deref-in-Match.ensures (sym c.len.ensures ∙ c.if-len-eq1.true) c.index.ensures) c.args.segment.now.sources) c.find_term-in-Match.ensures.total

pub returns-in-Match-clause-first : goal.returns-in-Match-clause-first
returns-in-Match-clause-first c =
    let m = c.args.segment.now.mapping in
    subst (λ (bs : List Bool). IfOk c.find_term-in-Match.result (λ f. f.first.items ≡ take c.args.wanted (places (λ b. b) (zip_with (λ m l. m && l) bs c.args.live.now))))
    (map_all _ _ (alone-in m c.deref-in-Match.result.now c.args.query.now c.in-Match.field _ c.in-Match.tokens c.index.result.now c.in-Match.is c.deref-in-Match.ensures (sym c.len.ensures ∙ c.if-len-eq1.true) c.index.ensures) c.args.segment.now.sources) c.find_term-in-Match.ensures.first
