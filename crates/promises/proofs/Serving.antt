-- What a command leaves of the one copy of an index.
use Rattle.std.proofs.Common.{◌≡◌, ◌≢◌, ◌⊎◌, ℕ, zero, suc, Bool, true, false, List, [], ◌∷◌, ◌++◌, length, Option, Some, Result, Ok, Err, IfOk, refl, sym, ap, subst, ◌∙◌, ⊎_elim}
use Rattle.std.specs.Prelude.{◌&&◌, ◌==◌, if◌then◌else◌, not, take}
use Rattle.std.specs.List.{flat_map, AllByRecursion}
use Rattle.doc.specs.Outcome.{◌>>=◌}
use Rattle.op.specs.declared.message.Content.TheVariants.{Promoted}
use Rattle.op.specs.declared.message.Msg.{Msg}
use Rattle.op.specs.declared.operation.Op.{Op}
use Rattle.op.specs.declared.record.Record.{Record}
use Rattle.op.specs.Operations.{IsAscending}
use Rattle.op.specs.Records.{IsRecord, operations}
use Rattle.op.proofs.RecordLaws.{IsAscending-operations}
use Rattle.translog.specs.Fault as log
use Rattle.translog.specs.Kept.{kept, IsTranslog}
use Rattle.translog.proofs.KeptLaws.{whole_kept, pieces_rules}
use Rattle.master.specs.Decide.{message, promoting, set_of}
use Rattle.master.specs.Logged as ruler
use Rattle.replica.specs.declared.fault.CopyFault.{CopyFault}
use Rattle.replica.specs.declared.input.Input.{Input}
use Rattle.replica.specs.declared.input.Input.TheVariants.{Take, Refresh as Refreshing, Get as Getting, Restart as Restarting}
use Rattle.replica.specs.Copy.{Copy}
use Rattle.replica.specs.Fault.{is_log}
use Rattle.replica.specs.Logged.{Logged, HasKept, IsFailed, IsLogged, IsRefusal, IsSame}
use Rattle.replica.specs.Step.{Step, copy_step, members_of}
use Rattle.shard.proofs.Failures.{failure}
use Rattle.shard.proofs.Promotions.{sends}
use Rattle.front.specs.declared.command.Write.{Write}
use Rattle.front.specs.declared.reply.Refusal.TheVariants.{Mismatch, Log, NoMemory}
use Rattle.front.specs.Command.{Command, write, bulk, get, search, count, refresh, promote}
use Rattle.front.specs.Reply.{Reply, refused}
use Rattle.shard.specs.Answering.{HasFailedIn, IsAnswered, IsPartOf, asked, bulk_of, bulk_reply_of, bulk_written, input_of, is_bulk, is_failure, left_by, refreshed_after, reply_of, taken, told, written}
use Rattle.shard.specs.Ready.{HasTaken, IsAsked, IsLeading, IsOpen, IsPromoted, IsPromotion, IsReady, IsReopening, IsServed, IsUnready, IsWanting, has_to_lead, is_primary, is_write}
use Rattle.promises.proofs.Steps.{Has, HasOp, Later, MayCome, itself, later_still, step_keeps, whole}

-- ---- the records of a log keep the rules

log_rules : (bytes : List ℕ) (rs : List Record) (groups : Bool) → IsTranslog bytes rs groups → AllByRecursion IsRecord rs
log_rules bytes rs groups log = subst (λ (l : List Record). AllByRecursion IsRecord l) (sym log.records) (pieces_rules log.pieces log.log.each)

pub ascends : (l : Logged) → IsLogged l → l.closed ≡ false → IsAscending (operations l.copy.records)
ascends l logged now_open = IsAscending-operations l.copy.records (log_rules l.log l.copy.records l.groups (logged now_open))

take_rules : (n : ℕ) (rs : List Record) → AllByRecursion IsRecord rs → AllByRecursion IsRecord (take n rs)
take_rules zero rs each = tt
take_rules (suc n) [] each = tt
take_rules (suc n) (r ∷ rs) each = (each.0, take_rules n rs each.1)

-- and so do the operations that are shown
pub shown_ascends : (l : Logged) → IsLogged l → l.closed ≡ false → (point : ℕ) → IsAscending (operations (take point l.copy.records))
shown_ascends l logged now_open point = IsAscending-operations (take point l.copy.records) (take_rules point l.copy.records (log_rules l.log l.copy.records l.groups (logged now_open)))

-- ---- what a copy has, open or closed

-- a log that keeps the operation
pub record KeepsOp (o : Op) (bytes : List ℕ) : Type 0 where
  pub records : List Record
  pub is : kept bytes ≡ Ok records
  pub has : Has o records

-- an open copy has it, and a closed one will have it again
pub record IsThere (o : Op) (seen : Bool) (l : Logged) : Type 0 where
  pub while_open : l.closed ≡ false → HasOp o seen l.copy
  pub while_closed : l.closed ≡ true → KeepsOp o l.log

pub is_open : (o : Op) (seen : Bool) (l : Logged) → l.closed ≡ false → HasOp o seen l.copy → IsThere o seen l
is_open o seen l now_open h = record { while_open = λ _. h; while_closed = λ closed. absurd (let no : true ≡ false = sym closed ∙ now_open in cc) }

is_shut : (o : Op) (seen : Bool) (l : Logged) → l.closed ≡ true → KeepsOp o l.log → IsThere o seen l
is_shut o seen l closed h = record { while_open = λ now_open. absurd (let no : true ≡ false = sym closed ∙ now_open in cc); while_closed = λ _. h }

pub by_state : {X : Type 0} (l : Logged) → (l.closed ≡ false → X) → (l.closed ≡ true → X) → X
by_state {X} l opened closed = (elim l.closed as (λ b. l.closed ≡ b → X) [ true ↦ closed | false ↦ opened ]) refl

-- the log keeps it while the copy is open too
log_keeps : (o : Op) (seen : Bool) (l : Logged) → IsThere o seen l → IsLogged l → KeepsOp o l.log
log_keeps o seen l is logged =
    by_state l (λ now_open. record { records = l.copy.records; is = whole_kept l.log l.copy.records l.groups (logged now_open); has = (is.while_open now_open).0 }) (λ closed. is.while_closed closed)

-- nothing was done
pub stays : (o : Op) (seen : Bool) (s t : Logged) → IsSame s t → IsThere o seen s → IsThere o seen t
stays o seen s t same is = record {
  while_open = λ now_open. rw same.copy (is.while_open (sym same.closed ∙ now_open));
  while_closed = λ closed. rw same.log (is.while_closed (sym same.closed ∙ closed));
}

-- a step of an open copy
module _ (o : Op) (seen : Bool) (s t : Logged) (is : IsThere o seen s) (logged : IsLogged s) where
  steps : (input : Input) → MayCome input → (d : Copy) → s.closed ≡ false → IfOk (copy_step s.copy input) (λ x. x.copy ≡ d → HasOp o seen d)
  steps input may d now_open = each (copy_step s.copy input) (step_keeps s.copy (ascends s logged now_open) input may)
    where
      each : (r : Step) → IfOk r (λ x. Later x.copy s.copy) → IfOk r (λ x. x.copy ≡ d → HasOp o seen d)
      each (Ok x) later = λ same. subst (λ (c : Copy). HasOp o seen c) same (later.keeps o seen (is.while_open now_open))
      each (Err e) later = tt

  -- its log failed
  failed : (input : Input) → MayCome input → (e : CopyFault) → IsFailed s t (copy_step s.copy input) e → IsThere o seen t
  failed input may e f = is_shut o seen t f.closed (⊎_elim as_before with_more f.records)
    where
      as_before : kept t.log ≡ kept s.log → KeepsOp o t.log
      as_before same = let old = log_keeps o seen s is logged in record { records = old.records; is = same ∙ old.is; has = old.has }

      with_more : (s.closed ≡ false) × HasKept (copy_step s.copy input) t.log → KeepsOp o t.log
      with_more h =
          let done : HasOp o seen h.1.stepped.copy = subst (λ (r : Step). IfOk r (λ x. x.copy ≡ h.1.stepped.copy → HasOp o seen h.1.stepped.copy)) h.1.is (steps input may h.1.stepped.copy h.0) refl in
          record { records = h.1.stepped.copy.records; is = h.1.records; has = done.0 }

  refuses : (input : Input) → MayCome input → (e : CopyFault) → IsRefusal s t (copy_step s.copy input) e → IsThere o seen t
  refuses input may e r = (elim (is_log e) as (λ b. is_log e ≡ b → IsThere o seen t) [ true ↦ λ h. failed input may e (r.1 h) | false ↦ λ h. stays o seen s t (r.0 h) is ]) refl

-- ---- a copy is made ready

ok_same : (xs ys : List Record) → (let r : Result (List Record) log.Fault = Ok xs in r) ≡ Ok ys → xs ≡ ys
ok_same xs ys e = cc

-- a restart takes what the log keeps
reopened : (o : Op) (seen : Bool) (s t : Logged) (x : IsOpen s t) → KeepsOp o s.log → IsThere o seen t
reopened o seen s t x keeps =
    let same : keeps.records ≡ t.copy.records = ok_same keeps.records t.copy.records (sym keeps.is ∙ x.found.records) in
    let has : Has o t.copy.records = subst (λ (rs : List Record). Has o rs) same keeps.has in
    let point : t.copy.point ≡ length t.copy.records = ap (λ (c : Copy). c.point) x.found.copy in
    is_open o seen t x.stays_open (rw point (whole o seen t.copy.records has))

reopening : (o : Op) (seen : Bool) (s t : Logged) → IsReopening s t → IsThere o seen s → IsThere o seen t
reopening o seen s t is there = by_state s (λ now_open. subst (λ (l : Logged). IsThere o seen l) (sym (is.stays now_open)) there) shut
  where
    shut : s.closed ≡ true → IsThere o seen t
    shut closed =
        let logged : IsLogged s = λ now_open. absurd (let no : true ≡ false = sym closed ∙ now_open in cc) in
        ⊎_elim (λ x. reopened o seen s t x (there.while_closed closed)) (λ x. refuses o seen s t there logged Restarting tt x.fault x.refusal) (is.restarts closed)

leads_open : (a b c : Bool) → (a && b && not c) ≡ true → c ≡ false
leads_open a b false h = refl
leads_open false b true h = absurd (let no : false ≡ true = h in cc)
leads_open true false true h = absurd (let no : false ≡ true = h in cc)
leads_open true true true h = absurd (let no : false ≡ true = h in cc)

-- what the master sends for a promotion makes a primary
some_same : (x y : Msg) → (let o : Option Msg = Some x in o) ≡ Some y → x ≡ y
some_same x y e = cc

promotes : (r : ℕ) (m n : ruler.Logged) (x : Msg) → IsPromotion r m n x → (set : List ℕ) × (x.content ≡ Promoted set)
promotes r m n x p =
    let set = set_of m.state r (m.state.primary == r) in
    let told = sends _ (promoting m.state r set) (message (promoting m.state r set) r (Promoted set)) _ p.done.decided in
    (set, ap (λ (y : Msg). y.content) (some_same x (message (promoting m.state r set) r (Promoted set)) (sym p.sent ∙ told)))

leading : (o : Op) (seen : Bool) (s t : Logged) (m n : ruler.Logged) (writes : Bool) → IsLeading writes s t m n → IsLogged s → IsThere o seen s → IsThere o seen t
leading o seen s t m n writes is logged there = (elim (has_to_lead writes s) as (λ b. has_to_lead writes s ≡ b → IsThere o seen t) [
  | true ↦ λ h. ⊎_elim (promoted_by (leads_open writes (not (is_primary s.copy.role)) s.closed h)) (λ x. as_it_was x.stays) (is.leads h)
  | false ↦ λ h. as_it_was (is.stays h).0
]) refl
  where
    as_it_was : t ≡ s → IsThere o seen t
    as_it_was same = subst (λ (l : Logged). IsThere o seen l) (sym same) there

    promoted_by : s.closed ≡ false → IsPromoted s t m n → IsThere o seen t
    promoted_by now_open p = ⊎_elim has_taken (λ x. refuses o seen s t there logged (Take p.message) may x.fault x.refusal) p.taking
      where
        may : MayCome (Take p.message)
        may = promotes s.copy.id p.told.awake n p.message p.told.promotion

        has_taken : HasTaken s t p.message → IsThere o seen t
        has_taken x =
            is_open o seen t x.stays_open (subst (λ (r : Step). IfOk r (λ y. y.copy ≡ t.copy → HasOp o seen t.copy)) x.step (steps o seen s t there logged (Take p.message) may t.copy now_open) refl)

pub ready : (o : Op) (seen : Bool) (writes : Bool) (s u : Logged) (m n : ruler.Logged) → IsReady writes s u m n → IsThere o seen s → IsThere o seen u
ready o seen writes s u m n is there = leading o seen is.between u m n writes is.led is.logged (reopening o seen s is.between is.reopened there)

unready : (o : Op) (seen : Bool) (s u : Logged) (m n : ruler.Logged) → IsUnready s u m n → IsThere o seen s → IsThere o seen u
unready o seen s u m n is there =
    stays o seen is.between u is.same (⊎_elim (λ same. subst (λ (l : Logged). IsThere o seen l) (sym same) there) (λ again. reopening o seen s is.between again there) is.reopened)

-- ---- a copy answers

module _ (c : Copy) (up : IsAscending (operations c.records)) where
  -- what is told leaves the copy as it was, or later
  one_step : (R : Type 0) (f : _ → Reply) (r : Step) → IfOk r (λ s. Later s.copy c) → Later (told c (r >>= λ s. Ok (s.copy, f s))).0 c
  one_step R f (Ok s) h = h
  one_step R f (Err e) h = itself c up

  after_refresh : (b : Bool) (d : Copy) → Later d c → IfOk (refreshed_after b d) (λ e. Later e c)
  after_refresh false d h = h
  after_refresh true d h = each (copy_step d Refreshing) (step_keeps d h.ascending Refreshing tt)
    where
      each : (r : Step) → IfOk r (λ s. Later s.copy d) → IfOk (r >>= λ s. Ok s.copy) (λ e. Later e c)
      each (Ok s) later = later_still c d s.copy h later
      each (Err e) later = tt

  with_refresh : (b : Bool) (reply : Reply) (d : Copy) → Later d c → Later (told c (refreshed_after b d >>= λ e. Ok (e, reply))).0 c
  with_refresh b reply d h = each (refreshed_after b d) (after_refresh b d h)
    where
      each : (r : Result Copy CopyFault) → IfOk r (λ e. Later e c) → Later (told c (r >>= λ e. Ok (e, reply))).0 c
      each (Ok e) later = later
      each (Err f) later = itself c up

  a_write : (w : Write) → Later (told c (written c w)).0 c
  a_write w = each (copy_step c (input_of w)) (step_keeps c up (input_of w) tt)
    where
      each : (r : Step) → IfOk r (λ s. Later s.copy c) → Later (told c (r >>= λ s. refreshed_after w.refresh s.copy >>= λ d. Ok (d, reply_of (members_of s.copy.role) s.answer))).0 c
      each (Ok s) later = with_refresh w.refresh (reply_of (members_of s.copy.role) s.answer) s.copy later
      each (Err f) later = itself c up

  a_bulk : (ws : List Write) → Later (told c (bulk_written c ws)).0 c
  a_bulk ws = (elim (is_bulk (length ws)) as (λ b. Later (told c (if b then (copy_step c (bulk_of ws) >>= λ s. Ok (s.copy, bulk_reply_of (members_of s.copy.role) s.answer)) else Ok (c, refused Mismatch))).0 c) [
    | true ↦ one_step Reply (λ s. bulk_reply_of (members_of s.copy.role) s.answer) (copy_step c (bulk_of ws)) (step_keeps c up (bulk_of ws) tt)
    | false ↦ itself c up
  ])

  a_step : (i : Input) → MayCome i → Later (told c (taken c i)).0 c
  a_step i may = one_step Reply (λ s. reply_of (members_of s.copy.role) s.answer) (copy_step c i) (step_keeps c up i may)

  tells : (x : Command) → Later (told c (asked c x)).0 c
  tells (write w) = a_write w
  tells (bulk ws) = a_bulk ws
  tells (get id) = a_step (Getting id) tt
  tells (search q page) = itself c up
  tells (count q) = itself c up
  tells refresh = a_step Refreshing tt
  tells (promote copy) = itself c up

  left_later : (i : Input) → MayCome i → Later (left_by c (copy_step c i)) c
  left_later i may = each (copy_step c i) (step_keeps c up i may)
    where
      each : (r : Step) → IfOk r (λ s. Later s.copy c) → Later (left_by c r) c
      each (Ok s) h = h
      each (Err e) h = itself c up

  same_copy : (d : Copy) → d ≡ c → Later d c
  same_copy d same = subst (λ (x : Copy). Later x c) (sym same) (itself c up)

  in_part : (i : Input) (d : Copy) → MayCome i → (d ≡ c) ⊎ (d ≡ left_by c (copy_step c i)) → Later d c
  in_part i d may h = ⊎_elim (same_copy d) (λ is. subst (λ (x : Copy). Later x c) (sym is) (left_later i may)) h

  parts : (x : Command) (d : Copy) → IsPartOf x c d → Later d c
  parts (write w) d h = in_part (input_of w) d tt h
  parts (bulk ws) d h = in_part (bulk_of ws) d tt h
  parts (get id) d h = same_copy d h
  parts (search q page) d h = same_copy d h
  parts (count q) d h = same_copy d h
  parts refresh d h = same_copy d h
  parts (promote copy) d h = same_copy d h

not_log : (r : Reply) → is_failure r ≡ false → r ≢ refused Log
not_log r h e = let no : true ≡ false = sym (ap is_failure e) ∙ h in absurd cc

module _ (o : Op) (seen : Bool) (s t : Logged) (there : IsThere o seen s) (logged : IsLogged s) where
  failed_in : (x : Command) → HasFailedIn x s t → IsThere o seen t
  failed_in (write w) h = failed o seen s t there logged (input_of w) tt h.fault h.failed
  failed_in (bulk ws) h = failed o seen s t there logged (bulk_of ws) tt h.fault h.failed
  failed_in (get id) h = absurd h
  failed_in (search q page) h = absurd h
  failed_in (count q) h = absurd h
  failed_in refresh h = absurd h
  failed_in (promote copy) h = absurd h

  later_there : s.closed ≡ false → t.closed ≡ false → Later t.copy s.copy → IsThere o seen t
  later_there now_open then_open later = is_open o seen t then_open (later.keeps o seen (there.while_open now_open))

  pub answered : (x : Command) (r : Reply) → IsAnswered s x r t → IsThere o seen t
  answered x r is = by_state s opened (λ closed. subst (λ (l : Logged). IsThere o seen l) (sym (is.closed closed).1) there)
    where
      exactly : s.closed ≡ false → is_failure r ≡ false → IsThere o seen t
      exactly now_open fine =
          later_there now_open (is.stays now_open (not_log r fine))
          (subst (λ (d : Copy). Later d s.copy) (sym (ap (λ (p : Copy × Reply). p.0) (is.exact now_open fine))) (tells s.copy (ascends s logged now_open) x))

      wanting : s.closed ≡ false → r ≡ refused NoMemory → IsThere o seen t
      wanting now_open e =
          later_there now_open (is.stays now_open (λ other. let no : refused NoMemory ≡ refused Log = sym e ∙ other in absurd cc)) (parts s.copy (ascends s logged now_open) x t.copy (is.memory now_open e))

      opened : s.closed ≡ false → IsThere o seen t
      opened now_open = (elim (is_failure r) as (λ b. is_failure r ≡ b → IsThere o seen t) [
        | true ↦ λ h. ⊎_elim (wanting now_open) (λ e. failed_in x (is.failed now_open e)) (failure r h)
        | false ↦ exactly now_open
      ]) refl

-- a command was served
pub served : (o : Op) (seen : Bool) (s : Logged) (m : ruler.Logged) (x : Command) (r : Reply) (t : Logged) (n : ruler.Logged) → IsServed s m x r t n → IsThere o seen s → IsThere o seen t
served o seen s m x r t n is there = ⊎_elim by_answer (λ (h : IsWanting s m r t n). unready o seen s t m n h.unready there) is.served
  where
    by_answer : IsAsked s m x r t n → IsThere o seen t
    by_answer h = answered o seen h.asked t (ready o seen (is_write x) s h.asked m n h.ready there) h.logged x r h.answered
