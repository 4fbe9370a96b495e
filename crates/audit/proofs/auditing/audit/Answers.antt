use Rattle.std.proofs.Common.{List, subst, ◌∙◌}
use Rattle.world.specs.World.{new_world}
use Rattle.audit.specs.declared.merge.Halt.{Halt}
use Rattle.journal.specs.declared.moves.Placed.{Placed}
use Rattle.audit.specs.Merge.{HaltsAt, HaltsIn, IsMerged}
use Rattle.audit.proofs.Glue.{audited_ok, audited_uncaused}
use Rattle.audit.proofs.auditing.audit.Goals as goal

pub returns-in-Err-clause-audited : goal.returns-in-Err-clause-audited
returns-in-Err-clause-audited c = c.in-Err.ensures.err c.args.mapping.now

pub returns-in-Ok-make-clause-audited : goal.returns-in-Ok-make-clause-audited
returns-in-Ok-make-clause-audited c =
    let mapping = c.args.mapping.now in
    let n = c.in-Ok.copies in
    let all = c.are_all.ensures.0 c.if-not-are_all.false in
    let same = c.as_slice.ensures.value ∙ c.in-Ok-judge_all.ensures.parts in
    audited_ok mapping n c.args.journals.now c.in-Ok-make.world.world c.in-Ok.ensures.size c.in-Ok-judge_all.ensures.pass all
    (subst (λ (ps : List (List Placed)). IsMerged (new_world mapping n) ps c.in-Ok-make.world.world) same c.in-Ok-make.ensures.made)

pub returns-in-Err-At-clause-audited : goal.returns-in-Err-At-clause-audited
returns-in-Err-At-clause-audited c =
    let mapping = c.args.mapping.now in
    let n = c.in-Ok.copies in
    let all = c.are_all.ensures.0 c.if-not-are_all.false in
    let same = c.as_slice.ensures.value ∙ c.in-Ok-judge_all.ensures.parts in
    let halts = subst (λ (e : Halt). HaltsIn (new_world mapping n) c.as_slice.result.now e) c.in-Err-At.field-0-is c.in-Err-At.ensures.halts in
    audited_uncaused mapping n c.args.journals.now c.in-Err-At.node c.in-Err-At.place c.in-Ok.ensures.size c.in-Ok-judge_all.ensures.pass all
    (subst (λ (ps : List (List Placed)). HaltsAt (new_world mapping n) ps c.in-Err-At.node c.in-Err-At.place) same halts)
