use Rattle.std.proofs.Common.{◌+◌, ap, subst, sym, arith, ◌∙◌, List, map}
use Rattle.published.proofs.Orders.{trans-IsPrefix}
use Rattle.cluster.specs.Opened.{copy_of, AreNew}
use Rattle.cluster.specs.Opening.{ReadyData}
use Rattle.cluster.proofs.Opened.{new_more, new_none, self_begins}
use Rattle.cluster.proofs.cluster.new_copies.Goals as goal

pub loop-before-init : goal.loop-before-init
loop-before-init g c = (c.new-all.ensures.len, new_none _ _ _ c.new-all.ensures.items, self_begins _)

pub returns-in_err-device-clause-gave : goal.returns-in_err-device-clause-gave
returns-in_err-device-clause-gave g c = trans-IsPrefix _ _ _ c.loop-before.invariant.2 c.device_of.ensures

pub returns-in_err-new_copy-clause-gave : goal.returns-in_err-new_copy-clause-gave
returns-in_err-new_copy-clause-gave g c = trans-IsPrefix _ _ _ c.loop-before.invariant.2 c.device_of.ensures

pub returns-in_err-push-clause-gave : goal.returns-in_err-push-clause-gave
returns-in_err-push-clause-gave g c = trans-IsPrefix _ _ _ c.loop-before.invariant.2 c.device_of.ensures

pub loop-before-preserved : goal.loop-before-preserved
loop-before-preserved g c =
    let was = c.loop-before.invariant in
    let all = c.loop-before.all in (
      omega (arith, c.in_ok-push.ensures.len, was.0),
      subst (λ (rs : List ReadyData). AreNew c.args.label.now.mapping c.args.copies 1 (map copy_of rs)) (sym c.in_ok-push.ensures.items)
          (new_more _ _ all.items _ (c.loop-before.before + 1) was.1 (ap (λ (r : ReadyData). r.copy) c.in_ok-new_copy.ensures) (ap (λ n. n + 1) (sym was.0 ∙ all.ok.0))),
      trans-IsPrefix _ _ _ was.2 c.device_of.ensures,
    )

pub returns-clause-new : goal.returns-clause-new
returns-clause-new g c = c.loop-before.invariant.1

pub returns-clause-gave : goal.returns-clause-gave
returns-clause-gave g c = c.loop-before.invariant.2
