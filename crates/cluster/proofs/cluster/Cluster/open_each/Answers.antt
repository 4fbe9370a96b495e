use Rattle.std.proofs.Common.{ap, refl, ◌∙◌}
use Rattle.published.proofs.Orders.{trans-IsPrefix}
use Rattle.cell.specs.Index.{IndexData}
use Rattle.cluster.proofs.Opened.{none_tried, same_begins, tried_all, tried_left, tried_some}
use Rattle.cluster.proofs.cluster.Cluster.open_each.Goals.{in-Some+in_ok-push-in-Some, in-None}
use Rattle.cluster.proofs.cluster.Cluster.open_each.Goals as goal

pub loop-id-init : goal.loop-id-init
loop-id-init g c = (refl, refl, refl, same_begins _ _ c.will_open.ensures, none_tried _ _ _ _ _ _ c.requires.0 c.requires.1 c.new-opened.ensures.items, refl)

pub returns-in_err-one-clause-same : goal.returns-in_err-one-clause-same
returns-in_err-one-clause-same g c = let was = c.loop-id.invariant in let on = c.open_one.ensures.same in (on.0 ∙ was.0, on.1 ∙ was.1, on.2 ∙ was.2)

pub returns-in_err-one-clause-gave : goal.returns-in_err-one-clause-gave
returns-in_err-one-clause-gave g c = trans-IsPrefix _ _ _ c.loop-id.invariant.3 c.open_one.ensures.gave

pub returns-in_err-push-in-Some-clause-same : goal.returns-in_err-push-in-Some-clause-same
returns-in_err-push-in-Some-clause-same g c = let was = c.loop-id.invariant in let on = c.open_one.ensures.same in (on.0 ∙ was.0, on.1 ∙ was.1, on.2 ∙ was.2)

pub returns-in_err-push-in-Some-clause-gave : goal.returns-in_err-push-in-Some-clause-gave
returns-in_err-push-in-Some-clause-gave g c = trans-IsPrefix _ _ _ c.loop-id.invariant.3 c.open_one.ensures.gave

pub loop-id-preserved : goal.loop-id-preserved
loop-id-preserved g c =
    let was = c.loop-id.invariant in
    let on = c.open_one.ensures.same in
    let more = c.open_one.ensures.gave in
    let same = ap (λ (l : IndexData). l.mapping) on.1 in (
      on.0 ∙ was.0,
      on.1 ∙ was.1,
      on.2 ∙ was.2,
      trans-IsPrefix _ _ _ was.3 more,
      elim c.match-branch-2.branch [
        | in-Some+in_ok-push-in-Some w ↦ tried_some _ _ _ _ _ _ _ _ _ _ c.loop-id.self.unopened c.open_one.new.self.unopened (λ v. v.items) _ _ _ _ c.loop-id-test.true was.4 same more c.in_ok-one.ensures.opened w.in-Some.is (ap (λ v. v.items) w.opened-is ∙ w.in_ok-push-in-Some.ensures.items)
        | in-None w ↦ tried_left _ _ _ _ _ _ _ _ c.loop-id.self.crew c.open_one.new.self.crew (λ v. v.began.items) _ _ _ _ _ c.loop-id-test.true was.4 same more c.in_ok-one.ensures.left w.in-None.is (ap (λ v. v.items) w.opened-is)
      ],
      c.open_one.ensures.unled ∙ was.5,
    )

pub returns-in_err-one-clause-unled : goal.returns-in_err-one-clause-unled
returns-in_err-one-clause-unled g c = c.open_one.ensures.unled ∙ c.loop-id.invariant.5

pub returns-in_err-push-in-Some-clause-unled : goal.returns-in_err-push-in-Some-clause-unled
returns-in_err-push-in-Some-clause-unled g c = c.open_one.ensures.unled ∙ c.loop-id.invariant.5

pub returns-clause-unled : goal.returns-clause-unled
returns-clause-unled g c = c.loop-id.invariant.5

pub returns-clause-same : goal.returns-clause-same
returns-clause-same g c = let was = c.loop-id.invariant in (was.0, was.1, was.2)

pub returns-clause-gave : goal.returns-clause-gave
returns-clause-gave g c = c.loop-id.invariant.3

pub returns-clause-tried : goal.returns-clause-tried
returns-clause-tried g c = tried_all _ _ _ _ _ _ _ _ _ c.loop-id-test.false c.as_slice-id-items.ensures c.loop-id.invariant.4
