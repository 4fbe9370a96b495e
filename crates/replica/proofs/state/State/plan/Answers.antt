use Rattle.std.proofs.Common.{◌≡◌, ◌∙◌, List, option_map, Ok, subst, ap, sym}
use Rattle.std.specs.Prelude.{Bool}
use Rattle.op.specs.Operations.{last_on}
use Rattle.engine.specs.Last.{last_of}
use Rattle.replica.specs.declared.fault.CopyFault.{CopyFault}
use Rattle.replica.specs.declared.role.Role.TheVariants.{Primary}
use Rattle.replica.specs.Copy.{Copy, operations}
use Rattle.replica.specs.LastView.{is_allowed_by, version_of}
use Rattle.replica.specs.Standing.{IsStanding}
use Rattle.doc.specs.Outcome.{Fails}
use Rattle.replica.specs.Fault.{fault_of}
use Rattle.replica.specs.Step.{first_fault, write_faults, write_faults_by}
use Rattle.replica.proofs.WriteLaws.{write_refused, write_spelled, faults-last, next_op, version_of-last, is_live-last}
use Rattle.replica.specs.Searched.{Searched}
use Rattle.replica.proofs.state.State.plan.Goals as goal

pub returns-in-Err-clause-gives : goal.returns-in-Err-clause-gives
returns-in-Err-clause-gives c =
    let s = c.args.self.now.copy in
    let w = c.args.write in
    let known : c.self.inside.known ≡ s.known = ap (λ (x : Copy). x.known) (ap (λ (v : Searched). v.copy) c.self.view_is) in
    let last : c.last-last.result ≡ option_map last_of (last_on (operations s) w.id) = c.last-last.ensures ∙ ap (λ (x : Copy). option_map last_of (last_on (operations x) w.id)) (ap (λ (v : Searched). v.copy) c.self.view_is) in
    let primary : s.role ≡ Primary c.in-Primary.lead = sym (ap (λ (x : Copy). x.role) (ap (λ (v : Searched). v.copy) c.self.view_is)) ∙ c.in-Primary.is in
    let same : write_faults_by (is_allowed_by c.last-last.result w.kind) c.self.inside.known c.next_seq-seq.result (version_of c.last-last.result) ≡ write_faults s w = rw (known, c.next_seq-seq.ensures.next, last) (faults-last s w) in
    write_refused s c.in-Primary.lead w c.in-Err.refusal primary (subst (λ (fs : List (Bool × CopyFault)). Fails fault_of c.in-Err.refusal (first_fault fs)) same c.in-Err.ensures.gives)

pub planned-requires : goal.planned-requires
planned-requires c =
    let s = c.args.self.now.copy in
    let w = c.args.write in
    let known : c.self.inside.known ≡ s.known = ap (λ (x : Copy). x.known) (ap (λ (v : Searched). v.copy) c.self.view_is) in
    let term : c.self.inside.term ≡ s.term = ap (λ (x : Copy). x.term) (ap (λ (v : Searched). v.copy) c.self.view_is) in
    let last : c.last-last.result ≡ option_map last_of (last_on (operations s) w.id) = c.last-last.ensures ∙ ap (λ (x : Copy). option_map last_of (last_on (operations x) w.id)) (ap (λ (v : Searched). v.copy) c.self.view_is) in
    let primary : s.role ≡ Primary c.in-Primary.lead = sym (ap (λ (x : Copy). x.role) (ap (λ (v : Searched). v.copy) c.self.view_is)) ∙ c.in-Primary.is in
    let stands : IsStanding s = subst (λ (x : Copy). IsStanding x) (ap (λ (v : Searched). v.copy) c.self.view_is) c.self.invariant in
    let same : write_faults_by (is_allowed_by c.last-last.result w.kind) c.self.inside.known c.next_seq-seq.result (version_of c.last-last.result) ≡ write_faults s w = rw (known, c.next_seq-seq.ensures.next, last) (faults-last s w) in
    let none = subst (λ (fs : List (Bool × CopyFault)). first_fault fs ≡ Ok c.in_default-check.field-0) same c.in_default-check.ensures.gives in
    rw (c.next_seq-seq.ensures.next, term, c.version_after.ensures, last, version_of-last (last_on (operations s) w.id), c.body.ensures)
    (next_op s c.in-Primary.lead w c.in_default-check.field-0 stands primary c.next_seq-seq.ensures.up none)

pub returns-clause-gives : goal.returns-clause-gives
returns-clause-gives c =
    let s = c.args.self.now.copy in
    let w = c.args.write in
    let known : c.self.inside.known ≡ s.known = ap (λ (x : Copy). x.known) (ap (λ (v : Searched). v.copy) c.self.view_is) in
    let term : c.self.inside.term ≡ s.term = ap (λ (x : Copy). x.term) (ap (λ (v : Searched). v.copy) c.self.view_is) in
    let last : c.last-last.result ≡ option_map last_of (last_on (operations s) w.id) = c.last-last.ensures ∙ ap (λ (x : Copy). option_map last_of (last_on (operations x) w.id)) (ap (λ (v : Searched). v.copy) c.self.view_is) in
    let primary : s.role ≡ Primary c.in-Primary.lead = sym (ap (λ (x : Copy). x.role) (ap (λ (v : Searched). v.copy) c.self.view_is)) ∙ c.in-Primary.is in
    let same : write_faults_by (is_allowed_by c.last-last.result w.kind) c.self.inside.known c.next_seq-seq.result (version_of c.last-last.result) ≡ write_faults s w = rw (known, c.next_seq-seq.ensures.next, last) (faults-last s w) in
    let none = subst (λ (fs : List (Bool × CopyFault)). first_fault fs ≡ Ok c.in_default-check.field-0) same c.in_default-check.ensures.gives in
    let gives = rw (c.next_seq-seq.ensures.next, term, c.version_after.ensures, c.outcome-outcome.ensures, c.is_live.ensures, last, version_of-last (last_on (operations s) w.id), is_live-last (last_on (operations s) w.id), c.body.ensures) at c.in_ok-planned.ensures.gives in
    let kept = rw (c.next_seq-seq.ensures.next, term, c.version_after.ensures, last, version_of-last (last_on (operations s) w.id), c.body.ensures) at c.in_ok-planned.ensures.kept in
    write_spelled s c.in-Primary.lead w c.in_default-check.field-0 c.in_ok-planned.planned c.spelled.result primary none kept gives c.spelled.ensures.gives
