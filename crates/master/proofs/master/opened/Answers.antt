use Rattle.std.proofs.Common.{◌≡◌, sym, map}
use Rattle.std.proofs.lemmas.Result.{err_from_is_err_and}
use Rattle.translog.proofs.FramesLaws.{opened_of}
use Rattle.master.specs.Log.{kept_state, state_of}
use Rattle.master.proofs.Replays.{fails_kept, found_kept}
use Rattle.master.proofs.master.opened.Goals as goal

pub returns-in_err-contents-clause-state : goal.returns-in_err-contents-clause-state
returns-in_err-contents-clause-state g c =
    let p = err_from_is_err_and c.from_residual.result c.from_residual.ensures.1 in
    rw (p.1, p.2) (fails_kept c.in_err-contents.field-0.0 c.args.frames.now.header _ c.requires c.in_err-contents.ensures.found)

pub returns-in_err-state-clause-state : goal.returns-in_err-state-clause-state
returns-in_err-state-clause-state g c =
    let is : kept_state (g.D.LogDevice.bytes c.args.frames.now.device) ≡ state_of (map (λ v. v.items) c.in_ok-contents.contents.items) = found_kept c.args.frames.now.header _ _ c.requires c.in_ok-contents.ensures.found in
    let p = err_from_is_err_and c.from_residual-in_err-state.result c.from_residual-in_err-state.ensures.1 in
    rw (p.1, p.2) (rw (is, ← c.as_slice.ensures.value) c.in_err-state.ensures.state)

pub returns-clause-state : goal.returns-clause-state
returns-clause-state g c =
    let is : kept_state (g.D.LogDevice.bytes c.args.frames.now.device) ≡ state_of (map (λ v. v.items) c.in_ok-contents.contents.items) = found_kept c.args.frames.now.header _ _ c.requires c.in_ok-contents.ensures.found in
    rw (is, ← c.as_slice.ensures.value) c.in_ok-state.ensures.state

pub returns-clause-left : goal.returns-clause-left
returns-clause-left g c =
    let read = c.in_ok-contents.ensures in
    let mended = c.in_ok-mend.ensures in
    let opened = opened_of c.args.frames.now.header c.read.new.self.header _ _ _ _ c.in_ok-contents.torn _ _ _ read.header read.held read.torn mended.ok mended.counts read.counts in
    rw (sym c.requires) opened.left
