use Rattle.std.proofs.Common.{◌≡◌, ◌∙◌, ◌∷◌, ◌++◌, ◌+◌, [], take, ap, sym}
use Rattle.std.proofs.lemmas.List.{take_more, take_all}
use Rattle.std.proofs.lemmas.Result.{IfOk-weaker}
use Rattle.op.specs.declared.operation.Op.{Op}
use Rattle.op.specs.Operations.{last_on}
use Rattle.engine.proofs.LatestLaws.{AreLastBy-made, last-more, on_last}
use Rattle.engine.proofs.read.documents.latest_in.Goals as goal

-- one operation more
pub loop-op-preserved : goal.loop-op-preserved
loop-op-preserved c =
    let os = c.args.operations.now in
    let i = c.loop-op.op-index in
    let o = c.op-item.result in
    let more : take (i + 1) os ≡ take i os ++ o ∷ [] = take_more os i o c.loop-op-test.true ∙ ap (λ (p : Op). take i os ++ p ∷ []) (sym c.op-item.is) in
    record {
      on = c.in_ok-note_last.ensures.on;
      last = λ q. c.in_ok-note_last.ensures.last q ∙ last-more (take i os) o q.now _ (c.loop-op.invariant.last q) ∙ ap (λ ps. last_on ps q.now) (sym more);
    }

pub returns : goal.returns
returns c = IfOk-weaker c.last_of_each.result _ _
    (λ v made.
    AreLastBy-made (last_on c.args.operations.now) (on_last c.args.operations.now) c.loop-op.pairs.items v.items made
    (λ q. c.loop-op.invariant.last q ∙ ap (λ ps. last_on ps q.now) (take_all c.loop-op.op-index c.args.operations.now c.loop-op-test.false)))
    c.last_of_each.ensures
