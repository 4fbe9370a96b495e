use Rattle.std.proofs.Common.{◌≡◌, ◌∙◌, true, false, sym, ap, subst, arith}
use Rattle.std.specs.Prelude.{◌==◌}
use Rattle.std.proofs.lemmas.Bool.Decides.{nat_tests}
use Rattle.op.specs.Ids.{has}
use Rattle.replica.specs.declared.role.Role.TheVariants.{Primary}
use Rattle.replica.specs.Copy.{Copy}
use Rattle.replica.specs.Standing.{IsStanding}
use Rattle.replica.proofs.Turning.{report_accepted, report_refused, report_unknown}
use Rattle.replica.specs.Searched.{Searched}
use Rattle.replica.proofs.state.State.report.Goals as goal

pub returns-then-id-self-clause-gives : goal.returns-then-id-self-clause-gives
returns-then-id-self-clause-gives c =
    let s = c.args.self.now.copy in
    let primary : s.role ≡ Primary c.in-Primary.lead = sym (ap (λ (x : Copy). x.role) (ap (λ (v : Searched). v.copy) c.self.view_is)) ∙ c.in-Primary.is in
    let id : c.self.inside.id ≡ s.id = ap (λ (x : Copy). x.id) (ap (λ (v : Searched). v.copy) c.self.view_is) in
    let own : (c.args.id == s.id) ≡ true = grind (arith, nat_tests) in
    report_refused s c.in-Primary.lead primary c.args.id own

pub returns-then-not-has-clause-gives : goal.returns-then-not-has-clause-gives
returns-then-not-has-clause-gives c =
    let s = c.args.self.now.copy in
    let primary : s.role ≡ Primary c.in-Primary.lead = sym (ap (λ (x : Copy). x.role) (ap (λ (v : Searched). v.copy) c.self.view_is)) ∙ c.in-Primary.is in
    let id : c.self.inside.id ≡ s.id = ap (λ (x : Copy). x.id) (ap (λ (v : Searched). v.copy) c.self.view_is) in
    let other : (c.args.id == s.id) ≡ false = grind (arith, nat_tests) in
    let stranger : has c.in-Primary.lead.members c.args.id ≡ false = cc in
    report_unknown s c.in-Primary.lead primary c.args.id other stranger

pub returns-clause-gives : goal.returns-clause-gives
returns-clause-gives c =
    let s = c.args.self.now.copy in
    let primary : s.role ≡ Primary c.in-Primary.lead = sym (ap (λ (x : Copy). x.role) (ap (λ (v : Searched). v.copy) c.self.view_is)) ∙ c.in-Primary.is in
    let id : c.self.inside.id ≡ s.id = ap (λ (x : Copy). x.id) (ap (λ (v : Searched). v.copy) c.self.view_is) in
    let stands : IsStanding s = subst (λ (x : Copy). IsStanding x) (ap (λ (v : Searched). v.copy) c.self.view_is) c.self.invariant in
    let other : (c.args.id == s.id) ≡ false = grind (arith, nat_tests) in
    let member : has c.in-Primary.lead.members c.args.id ≡ true = cc in
    let term : c.self.inside.term ≡ s.term = ap (λ (x : Copy). x.term) (ap (λ (v : Searched). v.copy) c.self.view_is) in
    rw (c.output_sending.ensures, c.in_ok-sent.ensures, term) (report_accepted s c.in-Primary.lead primary c.args.id stands other member)
