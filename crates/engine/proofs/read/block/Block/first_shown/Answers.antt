use Rattle.std.proofs.Common.{◌≡◌, ◌∙◌, List, ap, arith, length, map, min, subst, sym, take, IfOk}
use Rattle.std.proofs.lemmas.List.{length-map, take-map, take_min}
use Rattle.op.specs.Documents.{Documents}
use Rattle.engine.specs.Answer.{SnapshotData}
use Rattle.engine.specs.Shown.{shown_view}
use Rattle.engine.specs.declared.read.block.Shown.{Shown}
use Rattle.engine.proofs.read.block.Block.first_shown.Goals as goal

-- the first of the documents, as they are seen
pub returns : goal.returns
returns c =
    let items = c.self.inside.documents.items in
    let all = map shown_view items in
    let m = c.min-count.result in
    let long : m ≡ min c.args.wanted (length all) = omega (arith, c.min-count.ensures, c.len.ensures, length-map items shown_view) in
    subst (λ (ds : Documents). IfOk c.shown_in.result (λ v. map (λ r. shown_view r.now) v.items ≡ ds))
    (ap (λ (ds : List Shown). map shown_view (take m ds)) c.deref.ensures.value ∙ sym (take-map shown_view m items)
    ∙ ap (λ k. take k all) long ∙ take_min c.args.wanted all
    ∙ ap (λ (s : SnapshotData). take c.args.wanted s.documents) c.self.view_is) c.shown_in.ensures
