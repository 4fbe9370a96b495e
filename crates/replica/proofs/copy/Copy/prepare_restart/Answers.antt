use Rattle.std.proofs.Common.{◌≡◌, ℕ, List, ap, sym, subst, ◌∙◌}
use Rattle.engine.specs.Staged.{IsStagedFrom}
use Rattle.translog.specs.Frames.{LosesNothing}
use Rattle.translog.specs.Pieces.{own_header}
use Rattle.translog.proofs.KeptLaws.{left_by}
use Rattle.replica.specs.Copy.{Copy}
use Rattle.replica.specs.Logged.{Logged, IsLogged, searched}
use Rattle.replica.specs.Searched.{Searched, IsReopeningOf}
use Rattle.replica.specs.Staged.{contents, reopened_by}
use Rattle.replica.specs.Standing.{IsStanding}
use Rattle.replica.proofs.LogLaws.{ready_again, stays_logged}
use Rattle.replica.proofs.Searching.{same_searched}
use Rattle.replica.proofs.copy.Copy.prepare_restart.Goals as goal

pub returns-in-Err-clause-log : goal.returns-in-Err-clause-log
returns-in-Err-clause-log g c opened =
    let mid = c.read_log.new.self in
    let logged : IsLogged mid = subst (λ (l : Logged). IsLogged l) c.self.view_is c.self.invariant in
    let read = c.in_ok-records.ensures in
    stays_logged mid c.mend_log.new.self.log logged (read.stays ∙ opened) c.in-Err.ensures.refused.left ∙ read.log

pub returns-in-Ok-clause-log : goal.returns-in-Ok-clause-log
returns-in-Ok-clause-log g c opened =
    let mid = c.read_log.new.self in
    let new = c.mend_log.new.self.log in
    let logged : IsLogged mid = subst (λ (l : Logged). IsLogged l) c.self.view_is c.self.invariant in
    let read = c.in_ok-records.ensures in
    let left = left_by _ _ _ _ c.in_ok-records.torn _ read.log read.torn c.in-Ok.ensures.ok in
    stays_logged mid new logged (read.stays ∙ opened) (subst (λ (x : List ℕ). LosesNothing (own_header x) x new) (sym read.log) left) ∙ read.log

pub returns-in-Ok-clause-left : goal.returns-in-Ok-clause-left
returns-in-Ok-clause-left g c = left_by _ _ _ _ c.in_ok-records.torn _ c.in_ok-records.ensures.log c.in_ok-records.ensures.torn c.in-Ok.ensures.ok

pub returns-in-Ok-clause-ready : goal.returns-in-Ok-clause-ready
returns-in-Ok-clause-ready g c =
    let read = c.in_ok-records.ensures in
    let staged = c.in_ok-reopened.ensures in
    let r = c.in_ok-reopened.reopened in
    let copy : c.self.inside.state.copy ≡ c.read_log.new.self.copy = ap (λ (l : Logged). l.copy) c.self.view_is in
    ready_again c.args.self.now c.read_log.new.self c.mend_log.new.self _ c.in_ok-records.torn r c.in_ok-reopened.output read.log read.torn c.in-Ok.ensures.ok c.in-Ok.ensures.groups
    (same_searched c.mend_log.new.self c.read_log.new.self c.in-Ok.ensures.copy c.in-Ok.ensures.segments)
    (subst (λ (x : Copy). IsStagedFrom (contents x) r.staged) copy staged.fits) (subst (λ (x : Copy). IsStanding (reopened_by x r)) copy staged.standing)
    (subst (λ (x : Copy). (reopened_by x r).records ≡ c.in_ok-records.records.items) copy (ap (λ (x : Copy). x.records) staged.opened))
    (subst (λ (s : Searched). IsReopeningOf s r.staged c.in_ok-records.records.items) (ap searched c.self.view_is) staged.segments)
