use Rattle.std.proofs.Common.{◌≡◌, ◌++◌, ℕ, List, take, filter, not, sym, ap, ap₂, ◌∙◌, arith}
use Rattle.std.proofs.lemmas.Grind.{common_steps}
use Rattle.std.proofs.lemmas.List.Elements.{filter-append}
use Rattle.op.specs.Ids.{has}
use Rattle.replica.specs.Step.{is_settled_by}
use Rattle.replica.proofs.Pending.{without_settled}
use Rattle.replica.proofs.role.Lead.unsettled.Goals as goal

pub returns : goal.returns
returns c =
    let p = is_settled_by c.args.own c.args.self.now in
    let q = λ (n : ℕ). not (p n) in
    let near : List ℕ = c.parts.result.0.now in
    let far : List ℕ = c.parts.result.1.now in
    let all : take c.loop-number.number-index far ≡ far = grind (arith, common_steps, c.loop-number-test.false) in
    let lacks = c.subtract.ensures ∙ ap (λ (ns : List ℕ). filter (λ n. not (has ns n)) near) c.settled_of.ensures ∙ without_settled p near in
    c.of.ensures ∙ ap₂ (λ (xs ys : List ℕ). xs ++ ys) lacks (c.loop-number.invariant ∙ ap (filter q) all) ∙ sym (filter-append q near far) ∙ ap (filter q) c.parts.ensures
