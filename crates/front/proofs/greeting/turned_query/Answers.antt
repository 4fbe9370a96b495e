use Rattle.std.proofs.Common.{◌≡◌, ◌∙◌, ◌++◌, ◌∷◌, [], sym, ap, rules, append_assoc}
use Rattle.front.specs.Greeting.{turned, turned_query}
use Rattle.front.proofs.Greetings.{turned_last, turned_next}
use Rattle.front.proofs.greeting.turned_query.Goals as goal

pub returns-in_default : goal.returns-in_default
returns-in_default c =
    let last = turned_last c.parameters.rest.now c.cut_at.result.0.now c.cut_at.ensures.before (rw c.in_default.is at c.cut_at.ensures.after) in
    let written : c.extend_from_slice.new.self.items ≡ c.parameters.out.items ++ turned c.cut_at.result.0.now = search rules in
    written ∙ ap (λ l. c.parameters.out.items ++ l) (sym last) ∙ c.parameters.invariant

pub parameters-preserved : goal.parameters-preserved
parameters-preserved c =
    let next = turned_next c.parameters.rest.now c.cut_at.result.0.now c.in-Some.after.now c.cut_at.ensures.before (rw c.in-Some.is at c.cut_at.ensures.after) in
    let written : c.extend_from_slice.new.self.items ≡ c.parameters.out.items ++ turned c.cut_at.result.0.now = search rules in
    let pushed : c.push.new.self.items ≡ (c.parameters.out.items ++ turned c.cut_at.result.0.now) ++ (38 ∷ []) = search rules in
    ap (λ l. l ++ turned_query c.in-Some.after.now) pushed
    ∙ append_assoc (c.parameters.out.items ++ turned c.cut_at.result.0.now) (38 ∷ []) (turned_query c.in-Some.after.now)
    ∙ append_assoc c.parameters.out.items (turned c.cut_at.result.0.now) (38 ∷ turned_query c.in-Some.after.now)
    ∙ ap (λ l. c.parameters.out.items ++ l) (sym next)
    ∙ c.parameters.invariant
