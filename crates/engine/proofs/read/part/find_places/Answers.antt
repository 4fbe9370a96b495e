use Rattle.std.proofs.Common.{◌≡◌, ℕ, List, IfOk, length, subst, take}
use Rattle.query.specs.View.{query_view}
use Rattle.engine.specs.Answer.{is_found}
use Rattle.engine.proofs.ShareLaws.{full-places}
use Rattle.engine.proofs.read.part.find_places.Goals as goal

-- all are live
pub returns-then-all_live-clause-total : goal.returns-then-all_live-clause-total
returns-then-all_live-clause-total c =
    let b = c.args.block.now in
    subst (λ (ps : List ℕ). IfOk c.find_all.result (λ f. f.total ≡ length ps)) (full-places (is_found b.mapping (query_view c.args.query.now)) b.documents c.args.live.now (c.requires.full c.if-all_live.true)) c.find_all.ensures.total

pub returns-then-all_live-clause-first : goal.returns-then-all_live-clause-first
returns-then-all_live-clause-first c =
    let b = c.args.block.now in
    subst (λ (ps : List ℕ). IfOk c.find_all.result (λ f. f.first.items ≡ take c.args.wanted ps)) (full-places (is_found b.mapping (query_view c.args.query.now)) b.documents c.args.live.now (c.requires.full c.if-all_live.true)) c.find_all.ensures.first
