use Rattle.std.proofs.Common.{Some, Ok, sym, ◌∙◌}
use Rattle.audit.specs.Following.{standing_of}
use Rattle.audit.proofs.Cutting.{not_answer, reopening}
use Rattle.audit.proofs.following.follow_shut.Goals as goal

pub returns-in-None-clause-err : goal.returns-in-None-clause-err
returns-in-None-clause-err c =
    let d = c.args.copy.now.copy in
    let none = c.in_ok-is_kept-in-Ok.ensures.none in
    not_answer (standing_of d (Some c.args.cut)) c.args.place c.args.deed.now (Ok c.in-Ok.output) c.in-Ok.is
    (λ may. none c.in-None.is ((reopening d c.args.cut c.args.deed.now.input c.in-Ok.output c.requires.fails (sym c.is_restart.ensures ∙ c.if-not-is_restart.false)).1 may))
