use Rattle.std.proofs.Common.{◌≡◌, false, Err, IfSome, subst}
use Rattle.std.specs.Prelude.{◌↔◌, IsTrue}
use Rattle.std.proofs.lemmas.Result.{IfOk-weaker}
use Rattle.replica.specs.declared.input.Input.{Input}
use Rattle.replica.specs.Fault.{fault_of}
use Rattle.replica.specs.Step.{copy_step}
use Rattle.audit.proofs.Cutting.{a_refusal, no_refusal, not_memory}
use Rattle.audit.proofs.following.may_refuse.Goals as goal

pub returns-in-Ok-clause-legal : goal.returns-in-Ok-clause-legal
returns-in-Ok-clause-legal c =
    let d = c.args.copy.now.copy in
    let fault = c.args.fault.now in
    subst (λ (x : Input). IsTrue false ↔ IfSome (fault_of fault) (λ f. copy_step d x ≡ Err f)) c.in_ok-copy.ensures
    (no_refusal fault (copy_step d c.in_ok-copy.field-0) _ c.requires.fault (not_memory fault c.is_memory.result c.is_memory.ensures c.if-is_memory.false) (c.in-Ok.ensures.prepared.step c.requires.open))

pub returns-in-Err-clause-legal : goal.returns-in-Err-clause-legal
returns-in-Err-clause-legal c =
    let d = c.args.copy.now.copy in
    let fault = c.args.fault.now in
    let none = not_memory fault c.is_memory.result c.is_memory.ensures c.if-is_memory.false in
    IfOk-weaker c.refuses.result _ _
    (λ is h. subst (λ (x : Input). IsTrue is ↔ IfSome (fault_of fault) (λ f. copy_step d x ≡ Err f)) c.in_ok-copy.ensures
    (a_refusal fault c.in-Err.made (copy_step d c.in_ok-copy.field-0) is c.requires.fault none h.1 (c.in-Err.ensures.prepared.step c.requires.open) h.0))
    c.refuses.ensures
