-- Both halves of a step.
use Rattle.std.proofs.Common.{◌≡◌, ◌⊎◌, inl, inr, Bool, true, false, not, ◌&&◌, ◌||◌, List, [], ◌∷◌, ◌++◌, length, refl, sym, ap, subst, ◌∙◌, arith, length-append, append-nil, Result, Ok, Err}
use Rattle.std.specs.Prelude.{IsOk, nat_lt}
use Rattle.std.proofs.lemmas.Bool.Decides.{nat_tests}
use Rattle.doc.specs.Outcome.{Fails}
use Rattle.op.specs.declared.record.Record.{Record}
use Rattle.translog.specs.Kept.{kept}
use Rattle.translog.specs.declared.fault.LogFault.TheVariants.{Device}
use Rattle.translog.proofs.KeptLaws.{kept_stays}
use Rattle.op.specs.Records.{AreOfOneFrame, StartsWith}
use Rattle.replica.specs.declared.fault.CopyFault.{CopyFault}
use Rattle.replica.specs.declared.fault.CopyFault.TheVariants.{Closed, Log, NoMemory}
use Rattle.replica.specs.declared.input.Input.{Input}
use Rattle.replica.specs.declared.input.Input.TheVariants.{Write, Bulk, Take, Report, Refresh, Get, Restart}
use Rattle.replica.specs.declared.output.Output.{Output}
use Rattle.replica.specs.declared.prepared.Prepared.{Prepared}
use Rattle.replica.specs.declared.prepared.Prepared.TheVariants.{Answered, Settled, Kept, KeptAll, Shown, Restarted}
use Rattle.replica.specs.Copy.{Copy}
use Rattle.replica.specs.Fault.{fault_of, is_log}
use Rattle.replica.specs.Logged.{Logged, IsPrepared, IsReady, IsRefused, IsUntouched, is_kept, is_restart, is_restarted, output_of, prepared_copy, prepared_step}
use Rattle.replica.specs.Step.{Step, copy_step, members_of, stepped}
use Rattle.replica.proofs.Accepted.{restart_keeps}
use Rattle.replica.proofs.Failures.{refused_at_once, refused_in}
use Rattle.journal.specs.Journal.{keeps_record, left_by}
use Rattle.node.specs.Acting.{IsCommitted}
use Rattle.node.specs.Replay.{IsIdle, IsStep, MayFail}

and_false : (a b : Bool) → (a ≡ true → b ≡ false) → (a && b) ≡ false
and_false false b h = refl
and_false true b h = h refl

or_right : (a : Bool) → (a || true) ≡ true
or_right false = refl
or_right true = refl

not_refused : (input : Input) (p : Prepared) → IsRefused input (Ok p) → is_restart input ≡ false → ⊥
not_refused input p refused e = let no = refused e in absurd cc

must_restart : (input : Input) (p : Prepared) (b : Bool) → is_restart input ≡ b → IsRefused input (Ok p) → b ≡ true
must_restart input p true e refused = refl
must_restart input p false e refused = absurd (not_refused input p refused e)

no_fault : (e : CopyFault) (step : Step) → (e ≡ NoMemory) ⊎ (e ≡ Log Device) → Fails fault_of e step
no_fault e step (inl is) = subst (λ f. Fails fault_of f step) (sym is) tt
no_fault e step (inr is) = subst (λ f. Fails fault_of f step) (sym is) tt

-- one record more
longer : (rs : List Record) (r : Record) → nat_lt (length rs) (length (rs ++ r ∷ [])) ≡ true
longer rs r = let n = length-append rs (r ∷ []) in grind (arith, nat_tests)

-- some records more
longer_all : (rs new : List Record) → AreOfOneFrame new → nat_lt (length rs) (length (rs ++ new)) ≡ true
longer_all rs [] frame = absurd frame
longer_all rs (r ∷ more) frame = let n = length-append rs (r ∷ more) in grind (arith, nat_tests)

-- only a step that keeps records fails where it is done
keeps : (T : Type 0) (c : Copy) (l : Logged) (p : Prepared) (e : CopyFault) → IsReady l p → (is_kept p ≡ false → IsOk {T = T} (Err e))
    → (nat_lt (length c.records) (length (prepared_copy c p).records) ≡ true) × StartsWith (prepared_copy c p).records c.records
keeps T c l (Answered output) e ready sure = absurd (let no = sure refl in cc)
keeps T c l (Settled s) e ready sure = absurd (let no = sure refl in cc)
keeps T c l (Kept frame planned) e ready sure = (longer c.records planned.next_record, (planned.next_record ∷ [], refl))
keeps T c l (KeptAll frame planned) e ready sure = (longer_all c.records planned.records.items ready.2.spelt.rules, (planned.records.items, refl))
keeps T c l (Shown staged output) e ready sure = absurd (let no = sure refl in cc)
keeps T c l (Restarted reopened output) e ready sure = absurd (let no = sure refl in cc)

may_fail : (c : Copy) (input : Input) (p : Prepared) → copy_step c input ≡ Ok (prepared_step c p)
    → (nat_lt (length c.records) (length (prepared_copy c p).records) ≡ true) × StartsWith (prepared_copy c p).records c.records → MayFail c input (copy_step c input)
may_fail c input p is h = record {
  uses = ap (λ b. is_restart input || b) (ap (keeps_record c) is ∙ h.0) ∙ or_right (is_restart input);
  grows = subst (λ (r : Step). StartsWith (left_by c r).records c.records) (sym is) h.1;
}

-- a restart keeps all records
restarts : (c : Copy) (step : Step) → copy_step c Restart ≡ step → StartsWith (left_by c step).records c.records
restarts c (Ok s) e = ([], (restart_keeps c s e).0 ∙ sym (append-nil c.records))
restarts c (Err f) e = ([], sym (append-nil c.records))

restart_may : (c : Copy) (input : Input) → is_restart input ≡ true → MayFail c input (copy_step c input)
restart_may c (Write w) e = absurd (let no : false ≡ true = e in cc)
restart_may c (Bulk ws) e = absurd (let no : false ≡ true = e in cc)
restart_may c (Take m) e = absurd (let no : false ≡ true = e in cc)
restart_may c (Report r) e = absurd (let no : false ≡ true = e in cc)
restart_may c Refresh e = absurd (let no : false ≡ true = e in cc)
restart_may c (Get id) e = absurd (let no : false ≡ true = e in cc)
restart_may c Restart e = record { uses = refl; grows = restarts c (copy_step c Restart) refl }

is_log_restart : (e : CopyFault) (b : Bool) → (b ≡ false → is_log e ≡ false) → is_log e ≡ true → b ≡ true
is_log_restart e true other l = refl
is_log_restart e false other l = absurd (let x : false ≡ true = sym (other refl) ∙ l in cc)

refused_closed : (r : Result Prepared CopyFault) (e : CopyFault) → r ≡ Err e → (input : Input) → IsRefused input r → is_restart input ≡ false → (let s : Result Output CopyFault = Err e in s) ≡ Err Closed
refused_closed r e is input refused n = let same = sym is ∙ refused n in let f : e ≡ Closed = cc in ap (λ (x : CopyFault). let s : Result Output CopyFault = Err x in s) f

-- only a restart uses a closed copy's log, and it keeps no record
unkept : (T : Type 0) (p : Prepared) (e : CopyFault) → (is_kept p ≡ false → IsOk {T = T} (Err e)) → is_restarted p ≡ true → ⊥
unkept T (Answered output) e sure r = absurd (let no : false ≡ true = r in cc)
unkept T (Settled s) e sure r = absurd (let no : false ≡ true = r in cc)
unkept T (Kept frame planned) e sure r = absurd (let no : false ≡ true = r in cc)
unkept T (KeptAll frame planned) e sure r = absurd (let no : false ≡ true = r in cc)
unkept T (Shown staged output) e sure r = absurd (let no : false ≡ true = r in cc)
unkept T (Restarted reopened output) e sure r = absurd (let no = sure refl in cc)

-- a step that was ready, and was done or failed
pub committed : (old mid new : Logged) (input : Input) (p : Prepared) (r : Result Output CopyFault) → IsPrepared old mid input (Ok p) → IsUntouched old mid (Ok p) → IsCommitted mid new p r → IsStep old new input r
committed old mid new input p (Ok output) is left done =
    let copy : new.copy ≡ prepared_copy old.copy p = done.copy ∙ ap (λ (c : Copy). prepared_copy c p) left.copy in
    record {
      step = λ o. is.step o ∙ ap (λ (c : Copy). let r : Step = Ok (stepped c (output_of p)) in r) (sym copy) ∙ ap (λ (x : Output). let r : Step = Ok (stepped new.copy x) in r) (sym done.output);
      members = ap (λ (x : Output). x.members) done.output ∙ (is.members ∙ ap (λ (c : Copy). members_of c.role) (sym copy));
      closed = λ o e. absurd (not_refused input p (is.closed o) e);
      opened = done.opened ∙ and_false mid.closed (not (is_restarted p)) (λ c. ap not (is.kind ∙ must_restart input p (is_restart input) refl (is.closed (sym left.stays ∙ c))));
      refused = tt;
      fails = λ o. tt;
      found = λ e.
          let f = is.found e in
          record {
            records = subst (λ (c : Copy). kept old.log ≡ Ok c.records) (sym copy) f.records;
            copy = subst (λ (c : Copy). c ≡ Rattle.replica.specs.Copy.opened old.copy.id old.copy.birth old.copy.mapping c.records) (sym copy) f.copy;
            answer = rw (done.output, copy) f.answer;
            sent = rw done.output f.sent;
            none = rw done.output f.none;
          };
      unread = λ e. tt;
    }
committed old mid new input p (Err e) is left done = record {
  step = λ o. no_fault e (copy_step old.copy input) done.cause;
  members = tt;
  closed = λ o n. absurd (not_refused input p (is.closed o) n);
  opened = tt;
  refused = refused_in {T = Output} (Err e) old mid new input p done.cause done.closed done.memory done.counts done.sure is.kind is.closed left.copy left.stays left.log left.counts is.step;
  fails = λ o l. may_fail old.copy input p (is.step o) (keeps Output old.copy mid p e is.ready done.sure);
  found = λ n. tt;
  unread = λ n. absurd (unkept Output p e done.sure (is.kind ∙ n));
}

-- a step that wasn't ready
pub unprepared : (old new : Logged) (input : Input) (e : CopyFault) → IsPrepared old new input (Err e) → IsUntouched old new (Err e) → IsStep old new input (Err e)
unprepared old new input e is left = record {
  step = is.step;
  members = tt;
  closed = λ o n. refused_closed (Err e) e refl input (is.closed o) n;
  opened = tt;
  refused = refused_at_once e old new input (copy_step old.copy input) left.copy left.closes left.refused is.unread is.no_log;
  fails = λ o l. restart_may old.copy input (is_log_restart e (is_restart input) is.no_log l);
  found = λ n. tt;
  unread = is.unread;
}

-- a step that was ready, and was never done
pub undone : (old mid : Logged) (p : Prepared) → IsUntouched old mid (Ok p) → IsIdle old mid
undone old mid p left = record { copy = left.copy; closed = left.stays; records = kept_stays old.log mid.log left.left }
