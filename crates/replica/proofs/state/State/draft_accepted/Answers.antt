use Rattle.std.proofs.Common.{◌≡◌, ◌∙◌, true, false, refl, sym, ap}
use Rattle.op.specs.declared.operation.Op.{Op}
use Rattle.op.specs.declared.record.Record.TheVariants.{Op as Kept}
use Rattle.op.specs.Checkpoint.{checkpoint_of}
use Rattle.op.specs.Format.{is_too_large}
use Rattle.op.specs.Operations.{last_on}
use Rattle.replica.specs.declared.fault.CopyFault.TheVariants.{Exhausted}
use Rattle.replica.specs.Copy.{Copy, operations}
use Rattle.replica.specs.Drafted.{drafted}
use Rattle.replica.specs.Step.{op_of, record_of}
use Rattle.replica.proofs.Drafting.{both_ok, given_as, large_as, refused_drafted, refused_folds, refused_one}
use Rattle.replica.proofs.WriteLaws.{is_live-last, next_op, version_of-last}
use Rattle.replica.specs.Searched.{Searched}
use Rattle.replica.proofs.state.State.draft_accepted.Goals as goal

pub draft_kept-requires-clause-next : goal.draft_kept-requires-clause-next
draft_kept-requires-clause-next c =
    let s = c.args.self.now.copy in
    let d = c.args.draft in
    let w = c.args.write in
    let h = c.requires.drafted in
    let term : c.self.inside.term ≡ s.term = ap (λ (x : Copy). x.term) (ap (λ (v : Searched). v.copy) c.self.view_is) in
    let is : c.in-Some.op ≡ op_of (drafted s d) w = c.in-Some.ensures.same ∙ rw (h.next, term, c.version_after.ensures, c.requires.last, version_of-last (last_on (operations (drafted s d)) w.id), c.body.ensures) refl in
    rw is (next_op (drafted s d) d.lead w tt h.standing refl h.up c.requires.none)

pub returns-in-Some-clause-folds : goal.returns-in-Some-clause-folds
returns-in-Some-clause-folds c =
    let s = c.args.self.now.copy in
    let d = c.args.draft in
    let w = c.args.write in
    let h = c.requires.drafted in
    let term : c.self.inside.term ≡ s.term = ap (λ (x : Copy). x.term) (ap (λ (v : Searched). v.copy) c.self.view_is) in
    let made : (let o : Op = record { seq = d.next; term = c.self.inside.term; version = c.version_after.result; body = c.body.result } in o) ≡ op_of (drafted s d) w = rw (h.next, term, c.version_after.ensures, c.requires.last, version_of-last (last_on (operations (drafted s d)) w.id), c.body.ensures) refl in
    let is : c.in-Some.op ≡ op_of (drafted s d) w = c.in-Some.ensures.same ∙ made in
    let small : is_too_large (record_of (drafted s d) (op_of (drafted s d) w)) ≡ false = ap (λ (o : Op). is_too_large (Kept (checkpoint_of d.known) o)) (sym made) ∙ c.in-Some.ensures.small in
    rw (given_as (drafted s d) w d.lead refl c.requires.none small) (rw (is, c.outcome-outcome.ensures, c.is_live.ensures, c.requires.last, is_live-last (last_on (operations (drafted s d)) w.id)) at c.draft_kept.ensures.folds)

pub returns-in-None-clause-folds : goal.returns-in-None-clause-folds
returns-in-None-clause-folds c =
    let s = c.args.self.now.copy in
    let d = c.args.draft in
    let w = c.args.write in
    let h = c.requires.drafted in
    let term : c.self.inside.term ≡ s.term = ap (λ (x : Copy). x.term) (ap (λ (v : Searched). v.copy) c.self.view_is) in
    let made : (let o : Op = record { seq = d.next; term = c.self.inside.term; version = c.version_after.result; body = c.body.result } in o) ≡ op_of (drafted s d) w = rw (h.next, term, c.version_after.ensures, c.requires.last, version_of-last (last_on (operations (drafted s d)) w.id), c.body.ensures) refl in
    let large : is_too_large (record_of (drafted s d) (op_of (drafted s d) w)) ≡ true = ap (λ (o : Op). is_too_large (Kept (checkpoint_of d.known) o)) (sym made) ∙ c.in-None.ensures.large in
    rw (large_as (drafted s d) w d.lead refl c.requires.none large) (both_ok c.refused.result c.refused.ensures.items c.refused.ensures.same (refused_folds s d Exhausted))

pub returns-in-None-clause-drafted : goal.returns-in-None-clause-drafted
returns-in-None-clause-drafted c = both_ok c.refused.result c.refused.ensures.items c.refused.ensures.same (λ e items same. refused_drafted c.args.self.now.copy c.args.draft Exhausted e items same c.requires.drafted)

pub returns-in-None-clause-one : goal.returns-in-None-clause-one
returns-in-None-clause-one c = both_ok c.refused.result c.refused.ensures.items c.refused.ensures.same (refused_one c.args.self.now.copy c.args.draft Exhausted)
