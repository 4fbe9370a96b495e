-- A step keeps the copy as its journal says.
use Rattle.std.proofs.Common.{◌≡◌, ◌⊎◌, inl, inr, ℕ, ◌==◌, ◌||◌, not, Bool, true, false, List, [], ◌∷◌, ◌++◌, length, refl, sym, ap, subst, ◌∙◌, ⊎_elim, arith, length-append, append-nil, Option, Some, None, Result, Ok, Err}
use Rattle.std.proofs.lemmas.Bool.Decides.{nat_tests}
use Rattle.doc.specs.Outcome.{Fails}
use Rattle.doc.specs.Mapping.{MappingData}
use Rattle.op.specs.declared.record.Record.{Record}
use Rattle.translog.specs.Fault as log
use Rattle.translog.specs.Kept.{kept}
use Rattle.translog.proofs.KeptLaws.{whole_kept}
use Rattle.replica.specs.declared.fault.CopyFault.{CopyFault}
use Rattle.replica.specs.declared.fault.CopyFault.TheVariants.{NotPrimary, VersionConflict, WindowFull, OldTerm, NotSynced, BeyondWindow, Mismatch, Closed, Log, NoMemory, WrongAddress, Exhausted}
use Rattle.replica.specs.declared.input.Input.{Input}
use Rattle.replica.specs.declared.output.Output.{Output}
use Rattle.replica.specs.declared.role.Birth.{Birth}
use Rattle.replica.specs.declared.role.Birth.TheVariants.{First, Added}
use Rattle.replica.specs.Copy.{Copy, opened}
use Rattle.replica.specs.Fault.{fault_of, is_log}
use Rattle.replica.specs.Logged.{Logged, IsFailed, IsLogged, IsReopened, IsRefusal, IsSame, IsSameCopy, IsUnread, is_restart}
use Rattle.replica.specs.Step.{Step, copy_step, members_of, stepped}
use Rattle.journal.specs.declared.journal.Deed.{Deed}
use Rattle.journal.specs.Journal.{Shut, Standing, left_by, reopened, found, is_kept, is_point, answered, refused_at, may_shut, MayAnswer, MayRefuse, next, IsLegalAt}
use Rattle.op.specs.Records.{StartsWith}
use Rattle.node.specs.Replay.{IsIdle, IsReplayed, IsReplayedAs, IsShutAs, IsStep, MayFail}

itself : (c : Copy) → IsSameCopy c c
itself c = record { id = refl; birth = refl; mapping = refl }

onward : (a b c : Copy) → IsSameCopy a b → IsSameCopy b c → IsSameCopy a c
onward a b c p q = record { id = q.id ∙ p.id; birth = q.birth ∙ p.birth; mapping = q.mapping ∙ p.mapping }

-- ---- an open copy

accepted : (c : Copy) (place : ℕ) (input : Input) (old new : Logged) (output : Output) → IsReplayedAs c None old → IsStep old new input (Ok output)
    → MayAnswer c None input (Ok output) × IsReplayed (answered c None place input (Ok output)) new
accepted c place input old new output h t =
    let step : copy_step c input ≡ Ok (stepped new.copy output) = subst (λ (x : Copy). copy_step x input ≡ Ok (stepped new.copy output)) h.1 (t.step h.0) in
    let left : left_by c (copy_step c input) ≡ new.copy = ap (left_by c) step in (
      (step ∙ ap (λ (x : Copy). let r : Step = Ok (stepped x output) in r) (sym left), t.members ∙ ap (λ (x : Copy). members_of x.role) (sym left)),
      (t.opened, sym left),
    )

-- what a failed log keeps
failed_log : (c : Copy) (input : Input) (place : ℕ) (old new : Logged) (e : CopyFault) → old.closed ≡ false → old.copy ≡ c → IsLogged old → IsFailed old new (copy_step old.copy input) e
    → StartsWith (left_by c (copy_step c input)).records c.records
    → IsReplayed (refused_at c place input true) new
failed_log c input place old new e opened copy logged f grows =
    let whole : kept old.log ≡ Ok c.records = whole_kept old.log old.copy.records old.groups (logged opened) ∙ ap (λ (x : Copy). Ok x.records) copy in
    record {
      closed = f.closed;
      same = subst (λ (x : Copy). IsSameCopy x new.copy) copy f.copy;
      records = ⊎_elim (λ a. inl (a ∙ whole))
          (λ b. inr (b.1.records ∙ sym (ap (λ (r : Step). Ok (left_by c r).records) (ap (λ (x : Copy). copy_step x input) (sym copy) ∙ b.1.is)))) f.records;
      other = grows;
    }

refused_as : (c : Copy) (place : ℕ) (input : Input) (old new : Logged) (e : CopyFault) (b : Bool) → is_log e ≡ b → IsReplayedAs c None old → IsLogged old → IsStep old new input (Err e)
    → MayRefuse c input e b × IsReplayed (refused_at c place input b) new
refused_as c place input old new e true l h logged t =
    let may : MayFail c input (copy_step c input) = subst (λ (x : Copy). MayFail x input (copy_step x input)) h.1 (t.fails h.0 l) in
    (may.uses, failed_log c input place old new e h.0 h.1 logged (t.refused.1 l) may.grows)
refused_as c place input old new e false l h logged t =
    let same : IsSame old new = t.refused.0 l in
    (subst (λ (x : Copy). Fails fault_of e (copy_step x input)) h.1 (t.step h.0), (same.closed ∙ h.0, same.copy ∙ h.1))

-- ---- a copy whose log failed

same_ok : (xs ys : List Record) → (let r : Result (List Record) log.Fault = Ok xs in r) ≡ Ok ys → xs ≡ ys
same_ok xs ys e = cc

-- a list that begins with another, and is no longer, is that one
no_longer : (xs rest : List Record) → length (xs ++ rest) ≡ length xs → xs ++ rest ≡ xs
no_longer xs [] e = append-nil xs
no_longer xs (r ∷ rest) e = absurd (omega (arith, length-append xs (r ∷ rest), e))

same_length : (xs ys : List Record) → StartsWith ys xs → length ys ≡ length xs → ys ≡ xs
same_length xs ys starts e = starts.1 ∙ no_longer xs starts.0 (ap length (sym starts.1) ∙ e)

equals : (n : ℕ) → (n == n) ≡ true
equals n = grind (arith, nat_tests)

or_right : (a : Bool) → (a || true) ≡ true
or_right true = refl
or_right false = refl

-- which records were found, by how many there are
which : (xs ys rs : List Record) (b : Bool) → (length rs == length xs) ≡ b → StartsWith ys xs → (rs ≡ xs) ⊎ (rs ≡ ys) → (c : Copy) (f : Shut) → c.records ≡ xs → f.other ≡ ys → rs ≡ found c f (not b)
which xs ys rs true e starts (inl is) c f cs fs = is ∙ sym cs
which xs ys rs true e starts (inr is) c f cs fs =
    let same : length rs ≡ length xs = grind (arith, nat_tests) in
    (is ∙ same_length xs ys starts (ap length (sym is) ∙ same)) ∙ sym cs
which xs ys rs false e starts (inl is) c f cs fs = absurd (let no : true ≡ false = sym (equals (length xs)) ∙ (ap (λ (l : List Record). length l == length xs) (sym is) ∙ e) in cc)
which xs ys rs false e starts (inr is) c f cs fs = is ∙ sym fs

is_one : (xs ys rs : List Record) → (rs ≡ xs) ⊎ (rs ≡ ys) → ((length rs == length xs) || (length rs == length ys)) ≡ true
is_one xs ys rs (inl is) = ap (λ (l : List Record). (length l == length xs) || (length l == length ys)) is ∙ ap (λ b. b || (length xs == length ys)) (equals (length xs))
is_one xs ys rs (inr is) = ap (λ (l : List Record). (length l == length xs) || (length l == length ys)) is ∙ (ap (λ b. (length ys == length xs) || b) (equals (length ys)) ∙ or_right (length ys == length xs))

-- a copy that opens leads nobody
opens_alone : (id : ℕ) (birth : Birth) (mapping : MappingData) (rs : List Record) → members_of (opened id birth mapping rs).role ≡ 0
opens_alone id First mapping rs = refl
opens_alone id Added mapping [] = refl
opens_alone id Added mapping (r ∷ rs) = refl

reopens : (c : Copy) (f : Shut) (place : ℕ) (input : Input) (old new : Logged) (output : Output) → IsShutAs c f old → is_restart input ≡ true → new.closed ≡ false → output.members ≡ members_of new.copy.role → IsReopened old new output
    → MayAnswer c (Some f) input (Ok output) × IsReplayed (answered c (Some f) place input (Ok output)) new
reopens c f place input old new output h restart opened_now members again =
    let rs = new.copy.records in
    let one : (rs ≡ c.records) ⊎ (rs ≡ f.other) = ⊎_elim (λ a. inl (same_ok rs c.records (sym again.records ∙ a))) (λ b. inr (same_ok rs f.other (sym again.records ∙ b))) h.records in
    let point : is_point output.answer (length c.records) ≡ (length rs == length c.records) = ap (λ a. is_point a (length c.records)) again.answer in
    let other : is_point output.answer (length f.other) ≡ (length rs == length f.other) = ap (λ a. is_point a (length f.other)) again.answer in
    let chosen : rs ≡ found c f (is_kept c f output) = which c.records f.other rs (length rs == length c.records) refl h.other one c f refl refl ∙ ap (λ b. found c f (not b)) (sym point) in (
      record { restart = restart; point = rw (point, other) (is_one c.records f.other rs one); sent = again.sent; acknowledged = again.none; members = members ∙ (ap (λ (x : Copy). members_of x.role) again.copy ∙ opens_alone old.copy.id old.copy.birth old.copy.mapping rs) },
      (opened_now, again.copy ∙ (rw (h.same.id, h.same.birth, h.same.mapping) refl ∙ ap (reopened c) chosen)),
    )

accepted_shut : (c : Copy) (f : Shut) (place : ℕ) (input : Input) (old new : Logged) (output : Output) (b : Bool) → is_restart input ≡ b → IsShutAs c f old → IsStep old new input (Ok output)
    → MayAnswer c (Some f) input (Ok output) × IsReplayed (answered c (Some f) place input (Ok output)) new
accepted_shut c f place input old new output true restart h t = reopens c f place input old new output h restart t.opened t.members (t.found restart)
accepted_shut c f place input old new output false restart h t = absurd (let no = t.closed h.closed restart in cc)

unread_shut : (bytes : List ℕ) (e : CopyFault) → IsUnread bytes e → may_shut true e ≡ true
unread_shut bytes NotPrimary u = absurd u
unread_shut bytes VersionConflict u = absurd u
unread_shut bytes WindowFull u = absurd u
unread_shut bytes OldTerm u = absurd u
unread_shut bytes NotSynced u = absurd u
unread_shut bytes BeyondWindow u = absurd u
unread_shut bytes Mismatch u = absurd u
unread_shut bytes Closed u = absurd u
unread_shut bytes (Log f) u = refl
unread_shut bytes NoMemory u = refl
unread_shut bytes WrongAddress u = absurd u
unread_shut bytes Exhausted u = absurd u

closed_shut : (e : CopyFault) → (let r : Result Output CopyFault = Err e in r) ≡ Err Closed → may_shut false e ≡ true
closed_shut e is = let same : e ≡ Closed = cc in ap (may_shut false) same

shut_as : (c : Copy) (f : Shut) (input : Input) (old new : Logged) (e : CopyFault) (b : Bool) → is_restart input ≡ b → IsShutAs c f old → IsStep old new input (Err e) → may_shut b e ≡ true
shut_as c f input old new e true restart h t = unread_shut old.log e (t.unread restart)
shut_as c f input old new e false restart h t = closed_shut e (t.closed h.closed restart)

-- a refusal leaves it so
stays_as : (c : Copy) (f : Shut) (input : Input) (old new : Logged) (e : CopyFault) (b : Bool) → is_log e ≡ b → IsShutAs c f old → IsRefusal old new (copy_step old.copy input) e → IsShutAs c f new
stays_as c f input old new e true l h r =
    let failed = r.1 l in
    record {
      closed = failed.closed;
      same = onward c old.copy new.copy h.same failed.copy;
      records = ⊎_elim (λ a. ⊎_elim (λ x. inl (a ∙ x)) (λ y. inr (a ∙ y)) h.records) (λ b. absurd (let no : true ≡ false = sym h.closed ∙ b.0 in cc)) failed.records;
      other = h.other;
    }
stays_as c f input old new e false l h r =
    let same = r.0 l in
    record {
      closed = same.closed ∙ h.closed;
      same = subst (λ (x : Copy). IsSameCopy c x) (sym same.copy) h.same;
      records = ⊎_elim (λ a. inl (ap kept same.log ∙ a)) (λ b. inr (ap kept same.log ∙ b)) h.records;
      other = h.other;
    }

-- ---- all of them

answers : (c : Copy) (shut : Option Shut) (place : ℕ) (input : Input) (r : Result Output CopyFault) (old new : Logged) → IsReplayedAs c shut old → IsLogged old → IsStep old new input r
    → MayAnswer c shut input r × IsReplayed (answered c shut place input r) new
answers c None place input (Ok output) old new h logged t = accepted c place input old new output h t
answers c None place input (Err e) old new h logged t = refused_as c place input old new e (is_log e) refl h logged t
answers c (Some f) place input (Ok output) old new h logged t = accepted_shut c f place input old new output (is_restart input) refl h t
answers c (Some f) place input (Err e) old new h logged t =
    (shut_as c f input old new e (is_restart input) refl h t, stays_as c f input old new e (is_log e) refl h t.refused)

-- a step of the copy is a legal entry of its journal, and leaves the copy as the journal then says
pub replays : (s : Standing) (place : ℕ) (d : Deed) (old new : Logged) → IsReplayed s old → IsLogged old → IsStep old new d.input d.answer → IsLegalAt s d × IsReplayed (next s place d) new
replays s place d old new h logged t = answers s.copy s.shut place d.input d.answer old new h logged t

-- where nothing was done
idle_as : (c : Copy) (shut : Option Shut) (old new : Logged) → IsReplayedAs c shut old → IsIdle old new → IsReplayedAs c shut new
idle_as c None old new h idle = (idle.closed ∙ h.0, idle.copy ∙ h.1)
idle_as c (Some f) old new h idle = record {
  closed = idle.closed ∙ h.closed;
  same = subst (λ (x : Copy). IsSameCopy c x) (sym idle.copy) h.same;
  records = ⊎_elim (λ a. inl (idle.records ∙ a)) (λ b. inr (idle.records ∙ b)) h.records;
  other = h.other;
}

pub idles : (s : Standing) (old new : Logged) → IsReplayed s old → IsIdle old new → IsReplayed s new
idles s old new h idle = idle_as s.copy s.shut old new h idle
