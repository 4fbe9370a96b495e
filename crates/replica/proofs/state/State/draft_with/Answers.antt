use Rattle.std.proofs.Common.{◌≡◌, ◌∙◌, ◌++◌, Bool, List, option_map, refl, sym, ap, subst}
use Rattle.op.specs.declared.operation.Op.{Op}
use Rattle.op.specs.Operations.{last_on}
use Rattle.engine.specs.Last.{last_of}
use Rattle.doc.specs.Outcome.{Fails}
use Rattle.replica.specs.declared.fault.CopyFault.{CopyFault}
use Rattle.replica.specs.Copy.{Copy, operations}
use Rattle.replica.specs.Drafted.{drafted}
use Rattle.replica.specs.Fault.{fault_of}
use Rattle.replica.specs.LastView.{is_allowed_by, version_of}
use Rattle.replica.specs.Step.{first_fault, write_faults, write_faults_by}
use Rattle.replica.proofs.Drafting.{both_ok, refused_as, refused_drafted, refused_folds, refused_one}
use Rattle.replica.proofs.WriteLaws.{faults-last}
use Rattle.replica.specs.Searched.{Searched}
use Rattle.replica.proofs.state.State.draft_with.Goals as goal

pub returns-in-Err-clause-folds : goal.returns-in-Err-clause-folds
returns-in-Err-clause-folds c =
    let s = c.args.self.now.copy in
    let d = c.args.draft in
    let w = c.args.write in
    let h = c.requires in
    let f = c.in-Err.refusal in
    let last : c.last_with-last.result ≡ option_map last_of (last_on (operations (drafted s d)) w.id) = c.last_with-last.ensures ∙ ap (λ (x : Copy). option_map last_of (last_on (operations x ++ d.ahead) w.id)) (ap (λ (v : Searched). v.copy) c.self.view_is) ∙ ap (λ (os : List Op). option_map last_of (last_on os w.id)) (sym h.ahead) in
    let same : write_faults_by (is_allowed_by c.last_with-last.result w.kind) d.known d.next (version_of c.last_with-last.result) ≡ write_faults (drafted s d) w = rw (h.next, last) (faults-last (drafted s d) w) in
    let fails : Fails fault_of f (first_fault (write_faults (drafted s d) w)) = subst (λ (fs : List (Bool × CopyFault)). Fails fault_of f (first_fault fs)) same c.in-Err.ensures.gives in
    rw (refused_as (drafted s d) w d.lead f refl c.in-Err.ensures.told fails) (both_ok c.refused.result c.refused.ensures.items c.refused.ensures.same (refused_folds s d f))

pub returns-in-Err-clause-drafted : goal.returns-in-Err-clause-drafted
returns-in-Err-clause-drafted c = both_ok c.refused.result c.refused.ensures.items c.refused.ensures.same (λ e items same. refused_drafted c.args.self.now.copy c.args.draft c.in-Err.refusal e items same c.requires)

pub returns-in-Err-clause-one : goal.returns-in-Err-clause-one
returns-in-Err-clause-one c = both_ok c.refused.result c.refused.ensures.items c.refused.ensures.same (refused_one c.args.self.now.copy c.args.draft c.in-Err.refusal)
