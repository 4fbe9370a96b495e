use Rattle.std.proofs.Common.{◌≡◌, ◌≤◌, ◌<◌, ◌+◌, ℕ, zero, suc, List, [], ◌∷◌, ◌++◌, refl, sym, ap, ◌∙◌, add-one, arith}
use Rattle.std.specs.Prelude.{filter, not}
use Rattle.std.proofs.lemmas.Grind.{common_steps}
use Rattle.std.proofs.lemmas.List.Elements.{filter-append}
use Rattle.op.specs.Ids.{has, ids_below}
use Rattle.op.proofs.ids.CopyIds.others_below.Goals as goal
use Rattle.op.proofs.ids.CopyIds.others_below.Goals.{then-not-has+in_ok-push, else-not-has}

below-more : (n : ℕ) → 1 ≤ n → ids_below (n + 1) ≡ ids_below n ++ n ∷ []
below-more zero le = absurd (omega (arith, le))
below-more (suc n) le = ap ids_below (add-one (suc n))

others-more : (ns : List ℕ) (n : ℕ) → 1 ≤ n → filter (λ r. not (has ns r)) (ids_below (n + 1)) ≡ filter (λ r. not (has ns r)) (ids_below n) ++ filter (λ r. not (has ns r)) (n ∷ [])
others-more ns n le = ap (filter (λ r. not (has ns r))) (below-more n le) ∙ filter-append (λ r. not (has ns r)) (ids_below n) (n ∷ [])

pub loop-id-preserved : goal.loop-id-preserved
loop-id-preserved c =
    let more = others-more c.args.self.now c.loop-id.id c.loop-id.auto.id in
    elim c.if-not-has.branch [
      | then-not-has+in_ok-push w ↦ grind (arith, common_steps, more, c.loop-id.invariant, c.has.ensures)
      | else-not-has w ↦ grind (arith, common_steps, more, c.loop-id.invariant, c.has.ensures)
    ]

pub returns : goal.returns
returns c =
    let same : ids_below c.loop-id.id ≡ ids_below c.args.next = let end : c.loop-id.id ≡ c.args.next = omega (arith, c.loop-id-test.false, c.loop-id.auto.id-end) in ap ids_below end in
    c.loop-id.invariant ∙ ap (filter (λ r. not (has c.args.self.now r))) same
