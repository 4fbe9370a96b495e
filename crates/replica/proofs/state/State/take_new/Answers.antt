use Rattle.std.proofs.Common.{◌≡◌, true, false, Ok, sym, subst, arith}
use Rattle.std.proofs.lemmas.Bool.Decides.{nat_tests}
use Rattle.replica.specs.Copy.{operations}
use Rattle.std.proofs.Common.{SFits, w64, rules}
use Rattle.std.proofs.lemmas.Int.{to_z-of_z}
use Rattle.std.specs.Prelude.{Err, ◌+◌, nat_le}
use Rattle.std.proofs.lemmas.Result.{err_from_is_err_and}
use Rattle.op.specs.Operations.{local_count}
use Rattle.replica.specs.declared.role.Role.{Role}
use Rattle.replica.specs.Standing.{IsFollower}
use Rattle.replica.proofs.Following.{new_beyond, new_spelled}
use Rattle.replica.proofs.state.State.take_new.Goals as goal

pub returns-then-op-local_count-clause-gives : goal.returns-then-op-local_count-clause-gives
returns-then-op-local_count-clause-gives c =
    let s = c.args.self.now.copy in
    let beyond : nat_le (local_count (operations s) + 1024) c.args.op.seq ≡ true = grind (arith, nat_tests, c.local_count.ensures.count) in
    new_beyond s c.args.from c.args.known c.args.op beyond

pub returns-in_err-spelled-clause-gives : goal.returns-in_err-spelled-clause-gives
returns-in_err-spelled-clause-gives c =
    let s = c.args.self.now.copy in
    let fits : SFits w64 c.args.known = search rules in
    let follows : IsFollower s.role = subst (λ (r : Role). IsFollower r) (sym c.requires.same) c.requires.follows in
    let within : nat_le (local_count (operations s) + 1024) c.args.op.seq ≡ false = grind (arith, nat_tests, c.local_count.ensures.count) in
    let p = err_from_is_err_and c.from_residual-in_err-spelled.result c.from_residual-in_err-spelled.ensures.1 in
    rw (p.1, p.2) (new_spelled s c.args.from c.args.known c.args.op c.in_ok-planned.planned (Err c.in_err-spelled.field-0.0) within follows (simp to_z-of_z at c.in_ok-planned.ensures.kept) (simp to_z-of_z at c.in_ok-planned.ensures.gives) c.in_err-spelled.ensures.gives)

pub returns-clause-gives : goal.returns-clause-gives
returns-clause-gives c =
    let s = c.args.self.now.copy in
    let fits : SFits w64 c.args.known = search rules in
    let follows : IsFollower s.role = subst (λ (r : Role). IsFollower r) (sym c.requires.same) c.requires.follows in
    let within : nat_le (local_count (operations s) + 1024) c.args.op.seq ≡ false = grind (arith, nat_tests, c.local_count.ensures.count) in
    new_spelled s c.args.from c.args.known c.args.op c.in_ok-planned.planned (Ok c.in_ok-spelled.field-0) within follows (simp to_z-of_z at c.in_ok-planned.ensures.kept) (simp to_z-of_z at c.in_ok-planned.ensures.gives) c.in_ok-spelled.ensures.gives
