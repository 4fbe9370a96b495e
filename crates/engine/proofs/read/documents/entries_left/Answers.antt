use denote.Ref.{Bor}
use Rattle.std.proofs.Common.{◌≡◌, ◌∙◌, ◌∷◌, ◌++◌, ◌+◌, [], Vec, Global, append-nil, map, take, ap, sym}
use Rattle.std.proofs.lemmas.List.{take_more, map-append}
use Rattle.op.specs.declared.operation.Op.{Op}
use Rattle.engine.specs.declared.read.documents.Entry.{Entry}
use Rattle.engine.specs.Entry.{entry_view}
use Rattle.engine.specs.Latest.{left_all, left_of}
use Rattle.engine.proofs.LatestLaws.{left_all-push}
use Rattle.engine.proofs.read.documents.entries_left.Goals.{in-Some+in_ok-push, in_default}
use Rattle.engine.proofs.read.documents.entries_left.Goals as goal

-- one operation more
pub loop-op-preserved : goal.loop-op-preserved
loop-op-preserved c =
    let os = c.args.operations.now in
    let i = c.loop-op.op-index in
    let o = c.op-item.result in
    let before = c.loop-op.entries.items in
    let more : left_all (take (i + 1) os) ≡ left_all (take i os) ++ left_of o.now o.now.body =
    ap left_all (take_more os i o c.loop-op-test.true) ∙ ap (λ (p : Bor Op). left_all (take i os ++ p ∷ [])) (sym c.op-item.is) ∙ left_all-push (take i os) o in
    let so_far : map entry_view before ≡ left_all (take i os) = c.loop-op.invariant in
    rw more
    (elim c.match-entry_left.branch [
      | in-Some+in_ok-push w ↦
          ap (λ (v : Vec Entry Global). map entry_view v.items) w.entries-is ∙ ap (map entry_view) w.in_ok-push.ensures.items ∙ map-append entry_view before (w.in-Some.entry ∷ [])
          ∙ ap (λ ds. ds ++ entry_view w.in-Some.entry ∷ []) so_far ∙ ap (λ ds. left_all (take i os) ++ ds) (sym w.in-Some.ensures.some)
      | in_default w ↦
          ap (λ (v : Vec Entry Global). map entry_view v.items) w.entries-is ∙ so_far ∙ sym (append-nil (left_all (take i os))) ∙ ap (λ ds. left_all (take i os) ++ ds) (sym (c.entry_left.ensures.none w.in_default.is))
    ])
