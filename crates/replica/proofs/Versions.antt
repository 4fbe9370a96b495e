-- The versions that writes give.
use Rattle.std.proofs.Common.{◌≡◌, ◌<◌, ◌++◌, suc, Some, refl, sym, ap, ◌∙◌, arith}
use Rattle.std.specs.Prelude.{⊤, Result, Ok, Err, is_some}
use Rattle.doc.specs.Outcome.{◌>>=◌}
use Rattle.op.specs.declared.operation.Op.{Op}
use Rattle.op.specs.Operations.{last_on, next_version}
use Rattle.replica.specs.declared.fault.CopyFault.{CopyFault}
use Rattle.replica.specs.declared.input.Input.TheVariants.{Write as Client}
use Rattle.replica.specs.declared.input.Write.{Write}
use Rattle.replica.specs.declared.output.Answer.TheVariants.{Wrote}
use Rattle.replica.specs.declared.output.Written.{Written}
use Rattle.replica.specs.declared.role.Role.{Role}
use Rattle.replica.specs.declared.role.Role.TheVariants.{Empty, Replica, Primary}
use Rattle.replica.specs.Copy.{Copy, operations}
use Rattle.replica.specs.Step.{Stepped, copy_step, client, settled, settled_as, unless, first_fault, write_faults, spellable, wrote, record_of, op_of, outcome_of, found_by}

same_answer : (s : Stepped) (role : Role) → (settled_as s role).answer ≡ s.answer
same_answer s Empty = refl
same_answer s Replica = refl
same_answer s (Primary lead) = refl

-- a step behind checks answers what it would without
answered : (r : Result ⊤ CopyFault) (x s : Stepped) → settled (r >>= λ u. Ok x) ≡ Ok s → x.answer ≡ s.answer
answered (Ok u) x s e = let is : settled_as x x.copy.role ≡ s = cc in sym (same_answer x x.copy.role) ∙ ap (λ (y : Stepped). y.answer) is
answered (Err f) x s e = absurd cc

write_answer : (c : Copy) (w : Write) (s : Stepped) (role : Role) → settled (client c w role) ≡ Ok s → wrote (op_of c w) (outcome_of (is_some (found_by c w)) w.kind) ≡ s.answer
unfolding unless
write_answer c w s Empty e = absurd cc
write_answer c w s Replica e = absurd cc
write_answer c w s (Primary lead) e = answered (first_fault (write_faults c w ++ spellable (record_of c (op_of c w)))) _ s e

pub version_rises : (c : Copy) (w : Write) (s : Stepped) (written : Written) (o : Op) → copy_step c (Client w) ≡ Ok s → s.answer ≡ Wrote written → last_on (operations c) w.id ≡ Some o → o.version < written.version
version_rises c w s written o e is last =
    let same : wrote (op_of c w) (outcome_of (is_some (found_by c w)) w.kind) ≡ Wrote written = write_answer c w s c.role e ∙ is in
    let version : next_version (last_on (operations c) w.id) ≡ written.version = cc same in
    let next : next_version (last_on (operations c) w.id) ≡ suc o.version = ap next_version last in
    omega (arith, version, next)
