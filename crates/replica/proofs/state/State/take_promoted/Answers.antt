use Rattle.std.proofs.Common.{◌≡◌, ◌∙◌, false, Ok, sym, ap, arith}
use Rattle.std.specs.Prelude.{Err, ◌==◌}
use Rattle.std.proofs.lemmas.Bool.Decides.{nat_tests}
use Rattle.std.proofs.lemmas.Result.{err_from_is_err_and}
use Rattle.op.specs.Rules.{is_record}
use Rattle.replica.specs.Copy.{Copy}
use Rattle.replica.specs.Step.{resync_of}
use Rattle.replica.proofs.Promoting.{promoted_broken, promoted_spelled}
use Rattle.replica.specs.Searched.{Searched}
use Rattle.replica.proofs.state.State.take_promoted.Goals as goal

pub returns-then-not-is_tail-clause-gives : goal.returns-then-not-is_tail-clause-gives
returns-then-not-is_tail-clause-gives c =
    let s = c.args.self.now.copy in
    let term : c.self.inside.term ≡ s.term = ap (λ (x : Copy). x.term) (ap (λ (v : Searched). v.copy) c.self.view_is) in
    let new : (c.args.term == s.term) ≡ false = grind (arith, nat_tests) in
    let test : c.is_tail.result ≡ is_record (resync_of s c.args.term) = rw c.in_ok-tail.ensures at c.is_tail.ensures in
    promoted_broken s c.args.term c.args.set new (sym test ∙ c.if-not-is_tail.true)

pub returns-in_err-spelled-clause-gives : goal.returns-in_err-spelled-clause-gives
returns-in_err-spelled-clause-gives c =
    let s = c.args.self.now.copy in
    let term : c.self.inside.term ≡ s.term = ap (λ (x : Copy). x.term) (ap (λ (v : Searched). v.copy) c.self.view_is) in
    let new : (c.args.term == s.term) ≡ false = grind (arith, nat_tests) in
    let test : c.is_tail.result ≡ is_record (resync_of s c.args.term) = rw c.in_ok-tail.ensures at c.is_tail.ensures in
    let p = err_from_is_err_and c.from_residual-in_err-spelled.result c.from_residual-in_err-spelled.ensures.1 in
    rw (p.1, p.2) (promoted_spelled s c.args.term c.args.set c.in_ok-planned.planned (Err c.in_err-spelled.field-0.0) new (sym test ∙ c.if-not-is_tail.false) c.in_ok-planned.ensures.kept c.in_ok-planned.ensures.gives c.in_err-spelled.ensures.gives)

pub returns-clause-gives : goal.returns-clause-gives
returns-clause-gives c =
    let s = c.args.self.now.copy in
    let term : c.self.inside.term ≡ s.term = ap (λ (x : Copy). x.term) (ap (λ (v : Searched). v.copy) c.self.view_is) in
    let new : (c.args.term == s.term) ≡ false = grind (arith, nat_tests) in
    let test : c.is_tail.result ≡ is_record (resync_of s c.args.term) = rw c.in_ok-tail.ensures at c.is_tail.ensures in
    promoted_spelled s c.args.term c.args.set c.in_ok-planned.planned (Ok c.in_ok-spelled.field-0) new (sym test ∙ c.if-not-is_tail.false) c.in_ok-planned.ensures.kept c.in_ok-planned.ensures.gives c.in_ok-spelled.ensures.gives
