use Rattle.std.proofs.Common.{◌≡◌, ◌∙◌, Ok, sym, ap}
use Rattle.replica.specs.Copy.{Copy}
use Rattle.std.proofs.lemmas.Result.{err_from_is_err_and}
use Rattle.std.specs.Prelude.{Err}
use Rattle.replica.specs.declared.role.Role.TheVariants.{Empty}
use Rattle.replica.proofs.Following.{recover_spelled}
use Rattle.replica.specs.Searched.{Searched}
use Rattle.replica.proofs.state.State.take_recover.Goals as goal

pub returns-in_err-spelled-clause-gives : goal.returns-in_err-spelled-clause-gives
returns-in_err-spelled-clause-gives c =
    let s = c.args.self.now.copy in
    let empty : s.role ≡ Empty = sym (ap (λ (x : Copy). x.role) (ap (λ (v : Searched). v.copy) c.self.view_is)) ∙ c.in-Empty.is in
    let p = err_from_is_err_and c.from_residual-in_err-spelled.result c.from_residual-in_err-spelled.ensures.1 in
    rw (p.1, p.2) (recover_spelled s c.args.from c.args.term c.args.all c.in_ok-planned.planned (Err c.in_err-spelled.field-0.0) empty c.in_ok-planned.ensures.kept c.in_ok-planned.ensures.gives c.in_err-spelled.ensures.gives)

pub returns-clause-gives : goal.returns-clause-gives
returns-clause-gives c =
    let s = c.args.self.now.copy in
    let empty : s.role ≡ Empty = sym (ap (λ (x : Copy). x.role) (ap (λ (v : Searched). v.copy) c.self.view_is)) ∙ c.in-Empty.is in
    recover_spelled s c.args.from c.args.term c.args.all c.in_ok-planned.planned (Ok c.in_ok-spelled.field-0) empty c.in_ok-planned.ensures.kept c.in_ok-planned.ensures.gives c.in_ok-spelled.ensures.gives
