use Rattle.std.proofs.Common.{◌≡◌, length, Some, Err, refl, sym, subst, ◌∙◌}
use Rattle.std.specs.Prelude.{slice_get}
use Rattle.std.proofs.lemmas.Option.{slice_get_read}
use Rattle.audit.specs.declared.fault.AuditFault.{AuditFault}
use Rattle.audit.specs.Audit.{IsAudited}
use Rattle.audit.proofs.Passing.{all_below, below_more, differs, parts_more}
use Rattle.audit.proofs.auditing.judge_all.Goals as goal

pub returns-in-Err-clause-err : goal.returns-in-Err-clause-err
returns-in-Err-clause-err c =
    let mapping = c.args.mapping.now in
    let js = c.args.journals.now in
    let node = c.loop-node.node in
    let x = c.index-journals-node.result in
    let there : slice_get js node ≡ Some x = slice_get_read js (length js) node x refl c.loop-node-test.true c.index-journals-node.is in
    subst (λ (e : AuditFault). IsAudited mapping js (Err e)) (sym c.fault_at.ensures) (differs mapping js c.args.copies node x c.in-Err.wrong c.requires.size c.requires.count there c.loop-node.invariant.below c.in-Err.ensures.err)

pub loop-node-preserved : goal.loop-node-preserved
loop-node-preserved c =
    let mapping = c.args.mapping.now in
    let js = c.args.journals.now in
    let node = c.loop-node.node in
    let x = c.index-journals-node.result in
    let pass = c.in-Ok.ensures.ok in
    let there : slice_get js node ≡ Some x = slice_get_read js (length js) node x refl c.loop-node-test.true c.index-journals-node.is in
    record {
      parts = c.in_ok-push-in-Ok.ensures.items ∙ parts_more js node x c.in-Ok.part c.loop-node.parts.items there c.loop-node.invariant.parts pass.moves;
      below = below_more mapping c.args.copies js node x c.in-Ok.part c.loop-node.invariant.below there pass;
    }

pub returns-clause-pass : goal.returns-clause-pass
returns-clause-pass c = all_below c.args.mapping.now c.args.copies c.args.journals.now c.loop-node.node c.loop-node-test.false c.loop-node.invariant.below
