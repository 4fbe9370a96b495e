use Rattle.std.proofs.Common.{◌≡◌, ◌&&◌, Bool, List, map, take, length, subst, IfOk}
use Rattle.query.specs.View.{query_view}
use Rattle.marks.specs.Lists.{zip_with, places}
use Rattle.engine.specs.Answer.{SnapshotData, is_found}
use Rattle.engine.proofs.FoundLaws.{found-marks}
use Rattle.engine.proofs.read.block.Block.find.Goals as goal

-- what the segment finds are the documents
pub returns-clause-total : goal.returns-clause-total
returns-clause-total c =
    let inside = c.self.inside in
    let q = query_view c.args.query.now in
    let same = found-marks inside.segment.mapping q inside.documents.items inside.segment.sources c.self.invariant.same in
    subst (λ (s : SnapshotData). IfOk c.find.result (λ f. f.total ≡ length (places (λ (b : Bool). b) (zip_with (λ (m l : Bool). m && l) (map (is_found s.mapping q) s.documents) c.args.live.now)))) c.self.view_is
    (subst (λ (bs : List Bool). IfOk c.find.result (λ f. f.total ≡ length (places (λ (b : Bool). b) (zip_with (λ (m l : Bool). m && l) bs c.args.live.now)))) same c.find.ensures.total)

pub returns-clause-first : goal.returns-clause-first
returns-clause-first c =
    let inside = c.self.inside in
    let q = query_view c.args.query.now in
    let same = found-marks inside.segment.mapping q inside.documents.items inside.segment.sources c.self.invariant.same in
    subst (λ (s : SnapshotData). IfOk c.find.result (λ f. f.first.items ≡ take c.args.wanted (places (λ (b : Bool). b) (zip_with (λ (m l : Bool). m && l) (map (is_found s.mapping q) s.documents) c.args.live.now)))) c.self.view_is
    (subst (λ (bs : List Bool). IfOk c.find.result (λ f. f.first.items ≡ take c.args.wanted (places (λ (b : Bool). b) (zip_with (λ (m l : Bool). m && l) bs c.args.live.now)))) same c.find.ensures.first)
