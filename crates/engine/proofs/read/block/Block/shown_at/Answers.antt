use Rattle.std.proofs.Common.{◌≡◌, ◌<◌, ◌∙◌, Some, ap, sym, subst, arith, map, length, get_or, slice_get}
use Rattle.std.proofs.lemmas.List.{length-map}
use denote.Ref.{Bor}
use Rattle.engine.specs.Answer.{SnapshotData}
use Rattle.engine.specs.Shown.{shown_view}
use Rattle.engine.specs.declared.read.block.Shown.{Shown}
use Rattle.engine.proofs.FoundLaws.{seen_at, hit-more}
use Rattle.engine.proofs.read.block.Block.shown_at.Goals as goal

-- one document more
pub loop-place-preserved : goal.loop-place-preserved
loop-place-preserved c =
    let items = c.self.inside.documents.items in
    let i = c.loop-place.place-index in
    let p = get_or c.args.found.now i 0 in
    let r = c.index.result in
    let view = λ (q : Bor Shown). shown_view q.now in
    let within : p < length c.args.self.now.documents = c.requires i 0 c.loop-place-test.true in
    let inside : p < length items = omega (arith, subst (λ (s : SnapshotData). p < length s.documents) (sym c.self.view_is) within, length-map items shown_view) in
    let here : Some (shown_view r.now) ≡ slice_get (map shown_view items) p = seen_at shown_view items p r.now inside c.index.ensures in
    ap (map (λ (x : Bor Shown). Some (view x))) c.in_ok-push.ensures.items
    ∙ hit-more view c.args.self.now.documents c.loop-place.all.items r c.args.found.now i c.loop-place-test.true
    (subst (λ (s : SnapshotData). Some (shown_view r.now) ≡ slice_get s.documents p) c.self.view_is here) c.loop-place.invariant
