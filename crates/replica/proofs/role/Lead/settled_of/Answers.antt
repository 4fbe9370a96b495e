use Rattle.std.proofs.Common.{◌≡◌, ◌+◌, ℕ, List, false, true, drop, get_or, filter, sym, ap, ◌∙◌, arith}
use Rattle.std.specs.Prelude.{◌==◌}
use Rattle.std.proofs.lemmas.Bool.Decides.{nat_tests}
use Rattle.std.proofs.lemmas.List.{drop_more, drop_all}
use Rattle.op.specs.Ids.{has}
use Rattle.replica.proofs.Pending.{all_have, filter_true, asked-other, asked-own}
use Rattle.replica.proofs.role.Lead.settled_of.Goals as goal
use Rattle.replica.proofs.role.Lead.settled_of.Goals.{then-id-own, else-id-own}

pub loop-id-preserved : goal.loop-id-preserved
loop-id-preserved c =
    let acks = c.args.self.now.acks in
    let own = c.args.own in
    let ids : List ℕ = c.as_slice-id-items.result.now in
    let i = c.loop-id.id-index in
    let id = get_or ids i 0 in
    let before = c.loop-id.settled in
    let all = ap (λ rs. filter (all_have acks own rs) before) (sym (drop_more ids i 0 c.loop-id-test.true)) ∙ c.loop-id.invariant in
    elim c.if-id-own.branch [
      | then-id-own w ↦
          let other : (id == own) ≡ false = grind (arith, nat_tests, w.if-id-own.true) in
          ap (filter (all_have acks own (drop (i + 1) ids))) (w.settled-is ∙ w.intersect-settled.ensures ∙ ap (λ (ns : List ℕ). filter (λ n. has ns n) before) w.of.ensures) ∙ asked-other acks own id (drop (i + 1) ids) before other ∙ all
      | else-id-own w ↦
          let same : (id == own) ≡ true = grind (arith, nat_tests, w.if-id-own.false) in
          ap (filter (all_have acks own (drop (i + 1) ids))) w.settled-is ∙ asked-own acks own id (drop (i + 1) ids) before same ∙ all
    ]

pub returns : goal.returns
returns c =
    sym (filter_true c.loop-id.settled) ∙ ap (λ rs. filter (all_have c.args.self.now.acks c.args.own rs) c.loop-id.settled) (sym (drop_all c.loop-id.id-index c.as_slice-id-items.result.now (omega (arith, c.loop-id-test.false)))) ∙ c.loop-id.invariant
