use Rattle.std.proofs.Common.{◌≡◌, ◌∙◌, ◌∷◌, ◌++◌, ◌+◌, [], List, take, ap, sym, subst}
use Rattle.std.proofs.lemmas.List.{take_more}
use Rattle.op.specs.declared.operation.Op.{Op}
use Rattle.op.specs.Operations.{add}
use Rattle.engine.proofs.HeldLaws.{add-take}
use Rattle.engine.proofs.operations.operation_index.OperationIndex.of.Goals as goal

-- one operation more, behind all
pub loop-op-preserved : goal.loop-op-preserved
loop-op-preserved c =
    let os = c.args.operations.now in
    let i = c.loop-op.op-index in
    let o = c.op-item.result in
    let lt = c.loop-op-test.true in
    let more : take (i + 1) os ≡ take i os ++ o ∷ [] = take_more os i o lt ∙ ap (λ (p : Op). take i os ++ p ∷ []) (sym c.op-item.is) in
    let added : add (take i os) o ≡ take i os ++ o ∷ [] = subst (λ (p : Op). add (take i os) p ≡ take i os ++ p ∷ []) (sym c.op-item.is) (add-take os i o c.requires lt) in
    c.in_ok-add.ensures.ok ∙ ap (add c.loop-op.index) c.in_ok-copy.ensures ∙ ap (λ (ps : List Op). add ps o) c.loop-op.invariant ∙ added ∙ sym more
