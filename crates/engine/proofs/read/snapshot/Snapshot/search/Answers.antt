use Rattle.std.proofs.Common.{◌≡◌, ◌∙◌, ap, refl, map, length}
use Rattle.query.specs.View.{query_view}
use Rattle.op.specs.Documents.{Documents}
use Rattle.engine.specs.Answer.{SnapshotData, found, hit, on_page}
use Rattle.engine.specs.Entry.{entry_view}
use Rattle.engine.specs.Shown.{hit_view}
use Rattle.engine.proofs.read.snapshot.Snapshot.search.Goals as goal

-- what was found, counted and cut, is the answer
pub returns : goal.returns
returns c =
    let s = c.args.self.now in
    let q = query_view c.args.query.now in
    let page = c.args.page in
    let items = c.in_ok-share.share.first.items in
    let all = found s q in
    let total : c.in_ok-share.share.total ≡ length all =
    (rw c.deref.ensures at c.in_ok-share.ensures.total) ∙ ap (λ (v : SnapshotData). length (found v q)) c.self.view_is in
    let first : map entry_view items ≡ on_page page all =
    (rw (c.deref.ensures, c.from-from.ensures.same, c.size-size.ensures.same) at c.in_ok-share.ensures.first) ∙ ap (λ (v : SnapshotData). on_page page (found v q)) c.self.view_is in
    let hits : map hit_view c.in_ok-hits.hits.items ≡ map hit (on_page page all) =
    c.in_ok-hits.ensures ∙ ap (λ (ds : Documents). map hit ds) (ap (map entry_view) c.deref-2.ensures.value ∙ first) in
    rw (total, hits) refl
