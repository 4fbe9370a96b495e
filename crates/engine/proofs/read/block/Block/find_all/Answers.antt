use Rattle.std.proofs.Common.{◌≡◌, ℕ, List, IfOk, length, subst, take}
use Rattle.query.specs.View.{query_view}
use Rattle.marks.specs.Lists.{places}
use Rattle.engine.specs.Answer.{SnapshotData, is_found}
use Rattle.engine.proofs.FoundLaws.{found-places}
use Rattle.engine.proofs.read.block.Block.find_all.Goals as goal

-- what the segment finds are the documents
pub returns-clause-total : goal.returns-clause-total
returns-clause-total c =
    let inside = c.self.inside in
    let q = query_view c.args.query.now in
    let same = found-places inside.segment.mapping q inside.documents.items inside.segment.sources c.self.invariant.same in
    subst (λ (s : SnapshotData). IfOk c.find_all.result (λ f. f.total ≡ length (places (is_found s.mapping q) s.documents))) c.self.view_is
    (subst (λ (ps : List ℕ). IfOk c.find_all.result (λ f. f.total ≡ length ps)) same c.find_all.ensures.total)

pub returns-clause-first : goal.returns-clause-first
returns-clause-first c =
    let inside = c.self.inside in
    let q = query_view c.args.query.now in
    let same = found-places inside.segment.mapping q inside.documents.items inside.segment.sources c.self.invariant.same in
    subst (λ (s : SnapshotData). IfOk c.find_all.result (λ f. f.first.items ≡ take c.args.wanted (places (is_found s.mapping q) s.documents))) c.self.view_is
    (subst (λ (ps : List ℕ). IfOk c.find_all.result (λ f. f.first.items ≡ take c.args.wanted ps)) same c.find_all.ensures.first)
