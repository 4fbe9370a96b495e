use Rattle.std.proofs.Common.{◌≡◌, ◌∙◌, true, false, sym, ap, subst, Ok}
use Rattle.op.specs.Ids.{has}
use Rattle.op.specs.Operations.{from_number}
use Rattle.op.proofs.OperationLaws.{from_number-zero}
use Rattle.replica.specs.declared.role.Role.TheVariants.{Primary}
use Rattle.replica.specs.Copy.{Copy, operations}
use Rattle.replica.specs.Standing.{IsStanding}
use Rattle.replica.proofs.Settling.{leads, turn_joined}
use Rattle.replica.proofs.Turning.{tracked_again, tracked_refused, tracked_taken}
use Rattle.replica.specs.Searched.{Searched}
use Rattle.replica.proofs.state.State.take_track.Goals as goal

pub returns-then-has-clause-gives : goal.returns-then-has-clause-gives
returns-then-has-clause-gives c =
    let s = c.args.self.now.copy in
    let primary : s.role ≡ Primary c.in-Primary.lead = sym (ap (λ (x : Copy). x.role) (ap (λ (v : Searched). v.copy) c.self.view_is)) ∙ c.in-Primary.is in
    let out : has c.in-Primary.lead.out c.args.id ≡ true = cc in
    tracked_refused s c.in-Primary.lead primary c.args.id out

pub returns-then-has-2-clause-gives : goal.returns-then-has-2-clause-gives
returns-then-has-2-clause-gives c =
    let s = c.args.self.now.copy in
    let primary : s.role ≡ Primary c.in-Primary.lead = sym (ap (λ (x : Copy). x.role) (ap (λ (v : Searched). v.copy) c.self.view_is)) ∙ c.in-Primary.is in
    let out : has c.in-Primary.lead.out c.args.id ≡ false = cc in
    let term : c.self.inside.term ≡ s.term = ap (λ (x : Copy). x.term) (ap (λ (v : Searched). v.copy) c.self.view_is) in
    let all : c.in_ok-above.field-0.items ≡ operations s = c.in_ok-above.ensures ∙ ap (λ (x : Copy). from_number 0 (operations x)) (ap (λ (v : Searched). v.copy) c.self.view_is) ∙ from_number-zero (operations s) in
    let stands : IsStanding s = subst (λ (x : Copy). IsStanding x) (ap (λ (v : Searched). v.copy) c.self.view_is) c.self.invariant in
    let member : has c.in-Primary.lead.members c.args.id ≡ true = cc in
    rw (c.output_sending.ensures, c.in_ok-sent.ensures, c.from_vec-all.ensures, all, term) (tracked_again s c.in-Primary.lead primary c.args.id stands out member)

pub turned-requires : goal.turned-requires
turned-requires c =
    let s = c.args.self.now.copy in
    let primary : s.role ≡ Primary c.in-Primary.lead = sym (ap (λ (x : Copy). x.role) (ap (λ (v : Searched). v.copy) c.self.view_is)) ∙ c.in-Primary.is in
    let stands : IsStanding s = subst (λ (x : Copy). IsStanding x) (ap (λ (v : Searched). v.copy) c.self.view_is) c.self.invariant in
    rw c.in-Ok.ensures (turn_joined s c.in-Primary.lead c.args.id (leads s c.in-Primary.lead stands primary))

pub returns-clause-gives : goal.returns-clause-gives
returns-clause-gives c =
    let s = c.args.self.now.copy in
    let primary : s.role ≡ Primary c.in-Primary.lead = sym (ap (λ (x : Copy). x.role) (ap (λ (v : Searched). v.copy) c.self.view_is)) ∙ c.in-Primary.is in
    let out : has c.in-Primary.lead.out c.args.id ≡ false = cc in
    let term : c.self.inside.term ≡ s.term = ap (λ (x : Copy). x.term) (ap (λ (v : Searched). v.copy) c.self.view_is) in
    let all : c.in_ok-above.field-0.items ≡ operations s = c.in_ok-above.ensures ∙ ap (λ (x : Copy). from_number 0 (operations x)) (ap (λ (v : Searched). v.copy) c.self.view_is) ∙ from_number-zero (operations s) in
    let stranger : has c.in-Primary.lead.members c.args.id ≡ false = cc in
    tracked_taken s c.in-Primary.lead primary c.args.id out stranger ∙ ap Ok (sym (rw (c.in-Ok.ensures, c.in_ok-sent.ensures, c.from_vec-all.ensures, all, term) at c.in_ok-turned.ensures.gives))
