use Rattle.std.proofs.Common.{◌≡◌, ◌++◌, Some, ap, sym, subst, ◌∙◌, true}
use Rattle.translog.specs.Device.{AddsFront, count_after}
use Rattle.master.specs.declared.fault.MasterFault.TheVariants.{Log}
use Rattle.master.specs.Decide.{Decided, master_step}
use Rattle.master.specs.Entry.{entry_of, spelled, entry_for}
use Rattle.master.specs.Logged.{Logged, IsDone, IsRefused, frame_for}
use Rattle.master.proofs.Decisions.{done_again, grows, fails}
use Rattle.master.proofs.master.Master.step.Goals as goal

pub returns-then-is_repeated-clause-done : goal.returns-then-is_repeated-clause-done
returns-then-is_repeated-clause-done g c =
    let d : Decided = record { state = c.in_ok-decided.decided.state; decision = c.in_ok-decided.decided.decision } in
    let done = done_again _ c.self.inside.frames.header c.args.request d c.self.invariant c.if-self.false c.in_ok-decided.ensures.step (sym c.is_repeated.ensures ∙ c.if-is_repeated.true) in
    subst (λ (l : Logged). IsDone l l c.args.request c.into_decision.result (master_step l.state c.args.request)) c.self.view_is (rw c.into_decision.ensures done)

pub returns-in-Err-clause-refused : goal.returns-in-Err-clause-refused
returns-in-Err-clause-refused g c =
    let l : Logged = record {
      state = c.self.inside.state;
      closed = c.self.inside.closed;
      log = g.D.LogDevice.bytes c.self.inside.frames.device;
      failures = g.D.LogDevice.failures c.self.inside.frames.device;
      room = g.D.LogDevice.room c.self.inside.frames.device;
    } in
    let d : Decided = record { state = c.in_ok-decided.decided.state; decision = c.in_ok-decided.decided.decision } in
    let entry = c.of.ensures in
    let reads : entry_of (spelled (entry_for c.args.request)) ≡ Some (entry_for c.args.request) = rw entry at c.in-Ok.ensures.reads in
    let frame = c.in-Ok.ensures.frame ∙ ap frame_for entry in
    let now = c.append.new.self.device in
    let added : AddsFront l.log (frame_for (entry_for c.args.request)) (g.D.LogDevice.bytes now) = rw (c.prepared.ensures.held, frame) at c.in-Err.ensures.err in
    let counts : g.D.LogDevice.failures now ≡ count_after true l.failures = c.in-Err.ensures.counts ∙ ap (count_after true) c.prepared.ensures.failures in
    let refused = fails l c.self.inside.frames.header c.args.request d c.self.invariant c.if-self.false c.in_ok-decided.ensures.step reads (g.D.LogDevice.bytes now) (g.D.LogDevice.failures now) (g.D.LogDevice.room now) (sym (c.is_repeated.ensures) ∙ c.if-is_repeated.false) added counts in
    let new : Logged = record { state = c.self.inside.state; closed = true; log = g.D.LogDevice.bytes now; failures = g.D.LogDevice.failures now; room = g.D.LogDevice.room now } in
    subst (λ (x : Logged). IsRefused (Log c.in-Err.fault) x new (master_step x.state c.args.request)) c.self.view_is (rw c.in-Err.ensures.cause refused)

pub invariant_of-self-2 : goal.invariant_of-self-2
invariant_of-self-2 g c =
    let l : Logged = record {
      state = c.self.inside.state;
      closed = c.self.inside.closed;
      log = g.D.LogDevice.bytes c.self.inside.frames.device;
      failures = g.D.LogDevice.failures c.self.inside.frames.device;
      room = g.D.LogDevice.room c.self.inside.frames.device;
    } in
    let d : Decided = record { state = c.in_ok-decided.decided.state; decision = c.in_ok-decided.decided.decision } in
    let entry = c.of.ensures in
    let reads : entry_of (spelled (entry_for c.args.request)) ≡ Some (entry_for c.args.request) = rw entry at c.in-Ok.ensures.reads in
    let frame = c.in-Ok.ensures.frame ∙ ap frame_for entry in
    let log = c.in_default-append.ensures.ok ∙ ap (λ bs. bs ++ c.in-Ok.frame) c.prepared.ensures.held ∙ ap (λ f. g.D.LogDevice.bytes c.self.inside.frames.device ++ f) frame in
    record {
      header = c.append.ensures.header ∙ c.prepared.ensures.header ∙ c.self.invariant.header;
      sound = rw c.into_parts-state.ensures.state c.in_ok-decided.ensures.sound;
      log = λ _. rw (log, c.into_parts-state.ensures.state) (grows l c.self.inside.frames.header c.args.request d c.self.invariant c.if-self.false c.in_ok-decided.ensures.step reads);
    }
