use Rattle.std.proofs.Common.{◌≡◌, ℕ, List, Ok, ap, subst, sym}
use Rattle.doc.specs.Outcome.{Fails}
use Rattle.translog.specs.Fault.{fault_of}
use Rattle.translog.specs.Kept.{kept, IsTranslog}
use Rattle.replica.specs.Logged.{Logged, IsLogged}
use Rattle.replica.proofs.LogLaws.{read_logged, same_records, sound_log, unread}
use Rattle.replica.proofs.copy.Copy.read_log.Goals as goal

pub invariant_of-self : goal.invariant_of-self
invariant_of-self g c opened =
    let l : Logged = record { copy = c.self.inside.state.copy; segments = c.self.inside.state.segments; closed = c.self.inside.closed; log = g.D.LogDevice.bytes c.self.inside.log.device; groups = c.self.inside.log.groups; failures = 0; room = 0 } in
    let log = read_logged l c.in-Ok.found.0.items c.in-Ok.found.1 c.read.new.self.groups c.self.invariant opened c.in-Ok.ensures.torn c.in-Ok.ensures.found in
    subst (λ (x : List ℕ). IsTranslog x c.self.inside.state.copy.records c.read.new.self.groups) (sym c.in-Ok.ensures.held) log

pub returns-in-Ok-clause-same : goal.returns-in-Ok-clause-same
returns-in-Ok-clause-same g c opened =
    let s = c.args.self.now in
    let logged : IsLogged s = subst (λ (l : Logged). IsLogged l) c.self.view_is c.self.invariant in
    let found = subst (λ (x : List ℕ). kept x ≡ Ok c.in-Ok.found.0.items) (ap (λ (l : Logged). l.log) c.self.view_is) c.in-Ok.ensures.found in
    same_records s.log s.copy.records c.in-Ok.found.0.items s.groups (logged opened) found

pub returns-after-self-clause-unread : goal.returns-after-self-clause-unread
returns-after-self-clause-unread g c =
    let s = c.args.self.now in
    let fault = c.in-Err.fault in
    let found = subst (λ (x : List ℕ). Fails fault_of fault (kept x)) (ap (λ (l : Logged). l.log) c.self.view_is) c.in-Err.ensures.found in
    rw c.from-refusal.ensures (unread s.log fault found)

pub returns-after-self-clause-open_in_memory : goal.returns-after-self-clause-open_in_memory
returns-after-self-clause-open_in_memory g c memory opened =
    let s = c.args.self.now in
    let fault = c.in-Err.fault in
    let logged : IsLogged s = subst (λ (l : Logged). IsLogged l) c.self.view_is c.self.invariant in
    let found = subst (λ (x : List ℕ). Fails fault_of fault (kept x)) (ap (λ (l : Logged). l.log) c.self.view_is) c.in-Err.ensures.found in
    rw c.from-refusal.ensures (sound_log s.log s.copy.records s.groups fault (logged opened) found (c.in-Err.ensures.in_memory memory))
