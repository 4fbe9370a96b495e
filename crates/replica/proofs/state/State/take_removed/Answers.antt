use Rattle.std.proofs.Common.{◌≡◌, ◌∙◌, true, false, sym, ap, subst, Ok, arith}
use Rattle.std.specs.Prelude.{◌==◌}
use Rattle.std.proofs.lemmas.Bool.Decides.{nat_tests}
use Rattle.op.specs.Ids.{has}
use Rattle.replica.specs.declared.role.Role.TheVariants.{Primary}
use Rattle.replica.specs.Copy.{Copy}
use Rattle.replica.specs.Standing.{IsStanding}
use Rattle.replica.proofs.Settling.{leads, turn_left}
use Rattle.replica.proofs.Turning.{removed_again, removed_refused, removed_taken}
use Rattle.replica.specs.Searched.{Searched}
use Rattle.replica.proofs.state.State.take_removed.Goals as goal

pub returns-then-id-self-clause-gives : goal.returns-then-id-self-clause-gives
returns-then-id-self-clause-gives c =
    let s = c.args.self.now.copy in
    let primary : s.role ≡ Primary c.in-Primary.lead = sym (ap (λ (x : Copy). x.role) (ap (λ (v : Searched). v.copy) c.self.view_is)) ∙ c.in-Primary.is in
    let id : c.self.inside.id ≡ s.id = ap (λ (x : Copy). x.id) (ap (λ (v : Searched). v.copy) c.self.view_is) in
    let own : (c.args.id == s.id) ≡ true = grind (arith, nat_tests) in
    removed_refused s c.in-Primary.lead primary c.args.id own

pub returns-then-has-clause-gives : goal.returns-then-has-clause-gives
returns-then-has-clause-gives c =
    let s = c.args.self.now.copy in
    let primary : s.role ≡ Primary c.in-Primary.lead = sym (ap (λ (x : Copy). x.role) (ap (λ (v : Searched). v.copy) c.self.view_is)) ∙ c.in-Primary.is in
    let id : c.self.inside.id ≡ s.id = ap (λ (x : Copy). x.id) (ap (λ (v : Searched). v.copy) c.self.view_is) in
    let stands : IsStanding s = subst (λ (x : Copy). IsStanding x) (ap (λ (v : Searched). v.copy) c.self.view_is) c.self.invariant in
    let other : (c.args.id == s.id) ≡ false = grind (arith, nat_tests) in
    let out : has c.in-Primary.lead.out c.args.id ≡ true = cc in
    rw c.output.ensures (removed_again s c.in-Primary.lead primary c.args.id stands other out)

pub turned-requires : goal.turned-requires
turned-requires c =
    let s = c.args.self.now.copy in
    let primary : s.role ≡ Primary c.in-Primary.lead = sym (ap (λ (x : Copy). x.role) (ap (λ (v : Searched). v.copy) c.self.view_is)) ∙ c.in-Primary.is in
    let id : c.self.inside.id ≡ s.id = ap (λ (x : Copy). x.id) (ap (λ (v : Searched). v.copy) c.self.view_is) in
    let stands : IsStanding s = subst (λ (x : Copy). IsStanding x) (ap (λ (v : Searched). v.copy) c.self.view_is) c.self.invariant in
    let other : (c.args.id == s.id) ≡ false = grind (arith, nat_tests) in
    rw c.in_ok-left.ensures (turn_left s c.in-Primary.lead c.args.id (leads s c.in-Primary.lead stands primary) other)

pub returns-clause-gives : goal.returns-clause-gives
returns-clause-gives c =
    let s = c.args.self.now.copy in
    let primary : s.role ≡ Primary c.in-Primary.lead = sym (ap (λ (x : Copy). x.role) (ap (λ (v : Searched). v.copy) c.self.view_is)) ∙ c.in-Primary.is in
    let id : c.self.inside.id ≡ s.id = ap (λ (x : Copy). x.id) (ap (λ (v : Searched). v.copy) c.self.view_is) in
    let other : (c.args.id == s.id) ≡ false = grind (arith, nat_tests) in
    let out : has c.in-Primary.lead.out c.args.id ≡ false = cc in
    removed_taken s c.in-Primary.lead primary c.args.id other out ∙ ap Ok (sym (rw (c.in_ok-left.ensures, c.none.ensures) at c.in_ok-turned.ensures.gives))
