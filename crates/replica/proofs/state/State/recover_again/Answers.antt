use Rattle.std.proofs.Common.{◌≡◌, ◌∙◌, true, false, ap, subst, arith}
use Rattle.std.proofs.lemmas.Bool.Decides.{nat_tests}
use Rattle.replica.specs.Copy.{Copy}
use Rattle.replica.specs.Standing.{IsStanding}
use Rattle.std.specs.Prelude.{◌==◌}
use Rattle.replica.proofs.Following.{recover_other, recover_same}
use Rattle.replica.specs.Searched.{Searched}
use Rattle.replica.proofs.state.State.recover_again.Goals as goal

pub returns-then-term-self-clause-gives : goal.returns-then-term-self-clause-gives
returns-then-term-self-clause-gives c =
    let s = c.args.self.now.copy in
    let term : c.self.inside.term ≡ s.term = ap (λ (x : Copy). x.term) (ap (λ (v : Searched). v.copy) c.self.view_is) in
    let other : (c.args.term == s.term) ≡ false = grind (arith, nat_tests) in
    recover_other s c.args.from c.args.term other

pub returns-clause-gives : goal.returns-clause-gives
returns-clause-gives c =
    let s = c.args.self.now.copy in
    let term : c.args.term ≡ s.term = c.if-term-self.false ∙ ap (λ (x : Copy). x.term) (ap (λ (v : Searched). v.copy) c.self.view_is) in
    let own : (s.term == s.term) ≡ true = grind (arith, nat_tests) in
    let stands : IsStanding s = subst (λ (x : Copy). IsStanding x) (ap (λ (v : Searched). v.copy) c.self.view_is) c.self.invariant in
    rw (c.output_sending.ensures, c.in_ok-sent.ensures, c.local_count.ensures.count, term) (recover_same s c.args.from s.term stands own)
