use Rattle.std.proofs.Common.{sym, ap, ◌∙◌}
use Rattle.replica.specs.declared.input.Input.{Input}
use Rattle.replica.specs.Step.{copy_step, torn}
use Rattle.audit.proofs.Cutting.{by_tear}
use Rattle.audit.proofs.following.reopen.Goals as goal

pub returns-clause-copy : goal.returns-clause-copy
returns-clause-copy c =
    let d = c.args.copy.now.copy in
    by_tear d c.tear.new.self.copy c.args.cut.now c.args.is_kept c.requires.fails (sym c.is_restart.ensures ∙ c.if-is_restart.false)
    (c.in_ok-tear.ensures.copy ∙ ap (λ (x : Input). torn d (copy_step d x) c.args.is_kept) c.in_ok-input.ensures)
