use Rattle.std.proofs.Common.{◌≡◌, ◌<◌, ◌∙◌, Some, ap, sym, subst, arith, map, length, get_or, slice_get}
use Rattle.std.proofs.lemmas.List.{length-map}
use Rattle.engine.specs.Answer.{SnapshotData}
use Rattle.engine.specs.Entry.{entry_view}
use Rattle.engine.specs.Shown.{shown_view}
use Rattle.engine.proofs.FoundLaws.{seen_at, hit-more}
use Rattle.engine.proofs.read.block.Block.entries_at.Goals as goal

-- one document more
pub loop-place-preserved : goal.loop-place-preserved
loop-place-preserved c =
    let items = c.self.inside.documents.items in
    let i = c.loop-place.place-index in
    let p = get_or c.args.found.now i 0 in
    let e = c.entry_of.result in
    let within : p < length c.args.self.now.documents = c.requires i 0 c.loop-place-test.true in
    let inside : p < length items = omega (arith, subst (λ (s : SnapshotData). p < length s.documents) (sym c.self.view_is) within, length-map items shown_view) in
    let here : Some (entry_view e) ≡ slice_get (map shown_view items) p = ap (λ v. Some v) c.entry_of.ensures ∙ seen_at shown_view items p c.index-shown.result.now inside c.index-shown.ensures in
    ap (map (λ x. Some (entry_view x))) c.in_ok-push.ensures.items
    ∙ hit-more entry_view c.args.self.now.documents c.loop-place.entries.items e c.args.found.now i c.loop-place-test.true
    (subst (λ (s : SnapshotData). Some (entry_view e) ≡ slice_get s.documents p) c.self.view_is here) c.loop-place.invariant
