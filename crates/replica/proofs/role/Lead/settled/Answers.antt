use Rattle.std.proofs.Common.{◌≡◌, ◌++◌, ℕ, List, take, filter, sym, ap, ap₂, ◌∙◌, arith}
use Rattle.std.proofs.lemmas.Grind.{common_steps}
use Rattle.std.proofs.lemmas.List.Elements.{filter-append}
use Rattle.replica.specs.Step.{is_settled_by}
use Rattle.replica.proofs.role.Lead.settled.Goals as goal

pub returns : goal.returns
returns c =
    let p = is_settled_by c.args.own c.args.self.now in
    let near : List ℕ = c.parts.result.0.now in
    let far : List ℕ = c.parts.result.1.now in
    let all : take c.loop-number.number-index far ≡ far = grind (arith, common_steps, c.loop-number-test.false) in
    c.of.ensures ∙ ap₂ (λ (xs ys : List ℕ). xs ++ ys) c.settled_of.ensures (c.loop-number.invariant ∙ ap (filter p) all) ∙ sym (filter-append p near far) ∙ ap (filter p) c.parts.ensures
