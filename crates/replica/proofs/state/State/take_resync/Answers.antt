use Rattle.std.proofs.Common.{◌≡◌, true, false, Ok, ap, arith}
use Rattle.std.proofs.lemmas.Bool.Decides.{nat_tests}
use Rattle.replica.specs.Copy.{Copy, operations}
use Rattle.std.proofs.Common.{SFits, w64, rules}
use Rattle.std.specs.Prelude.{Err, ◌==◌, nat_lt}
use Rattle.std.proofs.lemmas.Int.{to_z-of_z}
use Rattle.std.proofs.lemmas.Result.{err_from_is_err_and}
use Rattle.op.specs.Checkpoint.{known}
use Rattle.op.specs.Operations.{local_count}
use Rattle.replica.proofs.Following.{resync_beyond, resync_spelled}
use Rattle.replica.specs.Searched.{Searched}
use Rattle.replica.proofs.state.State.take_resync.Goals as goal

pub returns-then-local_count-count-clause-gives : goal.returns-then-local_count-count-clause-gives
returns-then-local_count-count-clause-gives c =
    let s = c.args.self.now.copy in
    let term : c.self.inside.term ≡ s.term = ap (λ (x : Copy). x.term) (ap (λ (v : Searched). v.copy) c.self.view_is) in
    let new : (c.args.term == s.term) ≡ false = grind (arith, nat_tests) in
    let fits : SFits w64 c.args.known = search rules in
    let count : c.count-count.result ≡ known c.args.known = simp to_z-of_z at c.count-count.ensures.counted in
    let beyond : nat_lt (local_count (operations s)) (known c.args.known) ≡ true = grind (arith, nat_tests, c.local_count.ensures.count) in
    resync_beyond s c.args.from c.args.term c.args.known c.args.tail new beyond

pub returns-in_err-spelled-clause-gives : goal.returns-in_err-spelled-clause-gives
returns-in_err-spelled-clause-gives c =
    let s = c.args.self.now.copy in
    let term : c.self.inside.term ≡ s.term = ap (λ (x : Copy). x.term) (ap (λ (v : Searched). v.copy) c.self.view_is) in
    let new : (c.args.term == s.term) ≡ false = grind (arith, nat_tests) in
    let fits : SFits w64 c.args.known = search rules in
    let count : c.count-count.result ≡ known c.args.known = simp to_z-of_z at c.count-count.ensures.counted in
    let within : nat_lt (local_count (operations s)) (known c.args.known) ≡ false = grind (arith, nat_tests, c.local_count.ensures.count) in
    let p = err_from_is_err_and c.from_residual-in_err-spelled.result c.from_residual-in_err-spelled.ensures.1 in
    rw (p.1, p.2) (resync_spelled s c.args.from c.args.term c.args.known c.args.tail c.in_ok-planned.planned (Err c.in_err-spelled.field-0.0) new within (simp to_z-of_z at c.in_ok-planned.ensures.kept) (simp to_z-of_z at c.in_ok-planned.ensures.gives) c.in_err-spelled.ensures.gives)

pub returns-clause-gives : goal.returns-clause-gives
returns-clause-gives c =
    let s = c.args.self.now.copy in
    let term : c.self.inside.term ≡ s.term = ap (λ (x : Copy). x.term) (ap (λ (v : Searched). v.copy) c.self.view_is) in
    let new : (c.args.term == s.term) ≡ false = grind (arith, nat_tests) in
    let fits : SFits w64 c.args.known = search rules in
    let count : c.count-count.result ≡ known c.args.known = simp to_z-of_z at c.count-count.ensures.counted in
    let within : nat_lt (local_count (operations s)) (known c.args.known) ≡ false = grind (arith, nat_tests, c.local_count.ensures.count) in
    resync_spelled s c.args.from c.args.term c.args.known c.args.tail c.in_ok-planned.planned (Ok c.in_ok-spelled.field-0) new within (simp to_z-of_z at c.in_ok-planned.ensures.kept) (simp to_z-of_z at c.in_ok-planned.ensures.gives) c.in_ok-spelled.ensures.gives
