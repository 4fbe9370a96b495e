-- Whatever an index is asked, its copy keeps the mapping.
use Rattle.std.proofs.Common.{◌≡◌, ◌⊎◌, ⊎_elim, ℕ, ℤ, Bool, true, false, List, [], ◌∷◌, length, Option, Some, None, Result, Ok, Err, IfOk, refl, ap, subst, ◌∙◌}
use Rattle.std.specs.Prelude.{◌==◌, if◌then◌else◌}
use Rattle.doc.specs.Outcome.{◌>>=◌}
use Rattle.op.specs.declared.operation.Op.{Op}
use Rattle.op.specs.declared.message.Msg.{Msg}
use Rattle.op.specs.declared.message.Content.{Content}
use Rattle.op.specs.declared.message.Content.TheVariants.{Op as Operation, Ack, Promoted, Resync, Track, Recover, Synced, Fail, Removed}
use Rattle.op.specs.Checkpoint.{known}
use Rattle.op.specs.Ids.{has}
use Rattle.op.specs.Operations.{op_at}
use Rattle.master.specs.Logged as ruler
use Rattle.replica.specs.declared.fault.CopyFault.{CopyFault}
use Rattle.replica.specs.declared.input.Write as kept
use Rattle.replica.specs.declared.input.Input.{Input}
use Rattle.replica.specs.declared.input.Input.TheVariants.{Write as Client, Bulk, Take, Report as Reporting, Refresh as Refreshing, Get as Getting, Restart as Restarting}
use Rattle.replica.specs.declared.role.Lead.{Lead}
use Rattle.replica.specs.declared.role.Role.{Role}
use Rattle.replica.specs.declared.role.Role.TheVariants.{Empty, Replica, Primary}
use Rattle.replica.specs.Copy.{Copy, operations}
use Rattle.replica.specs.Fault.{is_log}
use Rattle.replica.specs.Logged.{Logged, IsRefusal, IsSame}
use Rattle.replica.specs.Step.{Folded, Step, bulk, copy_step, folded, unwritten, with_write, write_step, handled, members_of, settled, settled_as, unless, first_fault, client, take_content, take_op, take_over, take_ack, take_marked, take_promoted, take_resync, resync_again, take_track, track, take_recover, recover_again, take_removed, leave, report}
use Rattle.front.specs.declared.command.Write.{Write}
use Rattle.front.specs.declared.reply.Refusal.TheVariants as refusal
use Rattle.front.specs.Command.{Command, write, bulk as bulk_of_writes, get, search, count, refresh, promote}
use Rattle.front.specs.Reply.{Reply, refused}
use Rattle.shard.specs.Answering.{HasFailedIn, IsAnswered, IsPartOf, asked, bulk_of, bulk_reply_of, bulk_written, input_of, is_bulk, is_failure, left_by, refreshed_after, reply_of, taken, told, written}
use Rattle.shard.proofs.Failures.{failure}
use Rattle.shard.specs.Ready.{has_to_lead, HasTaken, IsLeading, IsOpen, IsReady, IsReopening, IsTaking, IsUnready}

-- ---- a step

module _ (c : Copy) where
  abbrev pub Under : Step → Type 0
  Under r = IfOk r (λ s. s.copy.mapping ≡ c.mapping)

  on_unless : (fs : List (Bool × CopyFault)) (s : Step) → Under s → Under (unless fs s)
  unfolding unless
  on_unless fs s h = elim (first_fault fs) as (λ r. Under (r >>= λ none. s)) [ Ok u ↦ h | Err e ↦ tt ]

  on_client : (w : kept.Write) (role : Role) → Under (client c w role)
  on_client w Empty = tt
  on_client w Replica = tt
  on_client w (Primary lead) = on_unless _ _ refl

  on_over : (from : ℕ) (g : ℤ) (o : Op) (there : Option Op) → Under (take_over c from g o there)
  on_over from g o (Some p) = on_unless _ _ refl
  on_over from g o None = on_unless _ _ refl

  on_op : (from : ℕ) (g : ℤ) (o : Op) (role : Role) → Under (take_op c from g o role)
  on_op from g o Empty = on_over from g o (op_at (operations c) o.seq)
  on_op from g o Replica = on_over from g o (op_at (operations c) o.seq)
  on_op from g o (Primary lead) = tt

  on_marked : (lead : Lead) (r : ℕ) (new : List ℕ) (again : Bool) → Under (take_marked c lead r new again)
  on_marked lead r new true = refl
  on_marked lead r new false = refl

  on_ack : (r seq below : ℕ) (role : Role) → Under (take_ack c r seq below role)
  on_ack r seq below Empty = tt
  on_ack r seq below Replica = tt
  on_ack r seq below (Primary lead) = on_unless _ _ (on_marked lead r _ _)

  on_promoted : (term : ℕ) (set : List ℕ) (again : Bool) → Under (take_promoted c term set again)
  on_promoted term set true = refl
  on_promoted term set false = on_unless _ _ refl

  on_again : (from : ℕ) (role : Role) → Under (resync_again c from role)
  on_again from Empty = refl
  on_again from Replica = refl
  on_again from (Primary lead) = tt

  on_resync : (from term : ℕ) (g : ℤ) (tail : List Op) (again : Bool) → Under (take_resync c from term g tail again)
  on_resync from term g tail true = on_again from c.role
  on_resync from term g tail false = on_unless _ _ refl

  on_tracked : (lead : Lead) (r : ℕ) (again : Bool) → Under (track c lead r again)
  on_tracked lead r true = refl
  on_tracked lead r false = refl

  on_track : (r : ℕ) (role : Role) → Under (take_track c r role)
  on_track r Empty = tt
  on_track r Replica = tt
  on_track r (Primary lead) = on_unless _ _ (on_tracked lead r (has lead.members r))

  on_recovered : (from term : ℕ) → Under (recover_again c from term)
  on_recovered from term = on_unless _ _ refl

  on_recover : (from term : ℕ) (ops : List Op) (role : Role) → Under (take_recover c from term ops role)
  on_recover from term ops Empty = on_unless _ _ refl
  on_recover from term ops Replica = on_recovered from term
  on_recover from term ops (Primary lead) = on_recovered from term

  on_leave : (lead : Lead) (r : ℕ) (again : Bool) → Under (leave c lead r again)
  on_leave lead r true = refl
  on_leave lead r false = refl

  on_removed : (r : ℕ) (role : Role) → Under (take_removed c r role)
  on_removed r Empty = tt
  on_removed r Replica = tt
  on_removed r (Primary lead) = on_unless _ _ (on_leave lead r (has lead.out r))

  on_content : (from term : ℕ) (k : Content) → Under (take_content c from term k)
  on_content from term (Operation g o) = on_op from g o c.role
  on_content from term (Ack s l) = on_ack from (known s) (known l) c.role
  on_content from term (Promoted set) = on_promoted term set (term == c.term)
  on_content from term (Resync g tail) = on_resync from term g tail (term == c.term)
  on_content from term (Track r) = on_track r c.role
  on_content from term (Recover ops) = on_recover from term ops c.role
  on_content from term (Removed r) = on_removed r c.role
  on_content from term (Synced r) = tt
  on_content from term (Fail r) = tt

  on_report : (r : ℕ) (role : Role) → Under (report c r role)
  on_report r Empty = tt
  on_report r Replica = tt
  on_report r (Primary lead) = on_unless _ _ refl

  on_settled : (r : Step) → Under r → Under (settled r)
  on_settled (Ok s) same = as_role s.copy.role
    where
      as_role : (role : Role) → Under (Ok (settled_as s role))
      as_role Empty = same
      as_role Replica = same
      as_role (Primary lead) = same
  on_settled (Err e) same = tt

write_under : (c : Copy) (w : kept.Write) → Under c (write_step c w)
write_under c w = on_settled c (client c w c.role) (on_client c w c.role)

with_under : (c : Copy) (b : Folded) (r : Step) → b.copy.mapping ≡ c.mapping → Under b.copy r → (with_write b r).copy.mapping ≡ c.mapping
with_under c b (Ok s) h one = one ∙ h
with_under c b (Err e) h one = h

fold_under : (c : Copy) (b : Folded) (ws : List kept.Write) → b.copy.mapping ≡ c.mapping → (folded b ws).copy.mapping ≡ c.mapping
fold_under c b [] h = h
fold_under c b (w ∷ ws) h = fold_under c (with_write b (write_step b.copy w)) ws (with_under c b (write_step b.copy w) h (write_under b.copy w))

bulk_under : (c : Copy) (ws : List kept.Write) (role : Role) → Under c (bulk c ws role)
bulk_under c ws Empty = tt
bulk_under c ws Replica = tt
bulk_under c ws (Primary lead) = fold_under c (unwritten c) ws refl

step_under : (c : Copy) (input : Input) → Under c (copy_step c input)
step_under c (Client w) = write_under c w
step_under c (Bulk ws) = bulk_under c ws c.role
step_under c (Take m) = on_settled c (handled c (Take m)) (on_unless c _ _ (on_content c m.from m.term m.content))
step_under c (Reporting r) = on_settled c (handled c (Reporting r)) (on_report c r c.role)
step_under c Refreshing = on_settled c (handled c Refreshing) refl
step_under c (Getting id) = on_settled c (handled c (Getting id)) refl
step_under c Restarting = on_settled c (handled c Restarting) refl

-- ---- a copy is made ready

-- both are under one mapping
abbrev pub IsUnder : Logged → Logged → Type 0
IsUnder s t = t.copy.mapping ≡ s.copy.mapping

of_same : (s t : Logged) → IsSame s t → IsUnder s t
of_same s t same = ap (λ (c : Copy). c.mapping) same.copy

of_equal : (s t : Logged) → t ≡ s → IsUnder s t
of_equal s t same = ap (λ (l : Logged). l.copy.mapping) same

of_refusal : (s t : Logged) (step : Step) (e : CopyFault) → IsRefusal s t step e → IsUnder s t
of_refusal s t step e r = (elim (is_log e) as (λ b. is_log e ≡ b → IsUnder s t) [ true ↦ λ h. (r.1 h).copy.mapping | false ↦ λ h. of_same s t (r.0 h) ]) refl

of_open : (s t : Logged) → IsOpen s t → IsUnder s t
of_open s t x = ap (λ (c : Copy). c.mapping) x.found.copy

by_state : {X : Type 0} (b : Bool) → (b ≡ false → X) → (b ≡ true → X) → X
by_state {X} b isnt is = (elim b as (λ c. b ≡ c → X) [ true ↦ is | false ↦ isnt ]) refl

of_reopening : (s t : Logged) → IsReopening s t → IsUnder s t
of_reopening s t is = by_state s.closed (λ h. of_equal s t (is.stays h)) (λ h. ⊎_elim (of_open s t) (λ x. of_refusal s t _ x.fault x.refusal) (is.restarts h))

of_taking : (s t : Logged) (m : Msg) → IsTaking s t m → IsUnder s t
of_taking s t m is = ⊎_elim taken_one (λ x. of_refusal s t _ x.fault x.refusal) is
  where
    taken_one : HasTaken s t m → IsUnder s t
    taken_one x = subst (λ (r : Step). IfOk r (λ y. y.copy.mapping ≡ s.copy.mapping)) x.step (step_under s.copy (Take m))

of_leading : (writes : Bool) (s t : Logged) (m n : ruler.Logged) → IsLeading writes s t m n → IsUnder s t
of_leading writes s t m n is = by_state (has_to_lead writes s) (λ h. of_equal s t (is.stays h).0) (λ h. ⊎_elim (λ x. of_taking s t x.message x.taking) (λ x. of_equal s t x.stays) (is.leads h))

pub ready_under : (writes : Bool) (s u : Logged) (m n : ruler.Logged) → IsReady writes s u m n → IsUnder s u
ready_under writes s u m n is = of_leading writes is.between u m n is.led ∙ of_reopening s is.between is.reopened

pub unready_under : (s u : Logged) (m n : ruler.Logged) → IsUnready s u m n → IsUnder s u
unready_under s u m n is = of_same is.between u is.same ∙ ⊎_elim (of_equal s is.between) (of_reopening s is.between) is.reopened

-- ---- a copy answers

module _ (c : Copy) where
  one_step : (f : _ → Reply) (r : Step) → Under c r → (told c (r >>= λ s. Ok (s.copy, f s))).0.mapping ≡ c.mapping
  one_step f (Ok s) h = h
  one_step f (Err e) h = refl

  after_refresh : (b : Bool) (d : Copy) → d.mapping ≡ c.mapping → IfOk (refreshed_after b d) (λ e. e.mapping ≡ c.mapping)
  after_refresh false d h = h
  after_refresh true d h = each (copy_step d Refreshing) (step_under d Refreshing)
    where
      each : (r : Step) → Under d r → IfOk (r >>= λ s. Ok s.copy) (λ e. e.mapping ≡ c.mapping)
      each (Ok s) same = same ∙ h
      each (Err e) same = tt

  with_refresh : (b : Bool) (reply : Reply) (d : Copy) → d.mapping ≡ c.mapping → (told c (refreshed_after b d >>= λ e. Ok (e, reply))).0.mapping ≡ c.mapping
  with_refresh b reply d h = each (refreshed_after b d) (after_refresh b d h)
    where
      each : (r : Result Copy CopyFault) → IfOk r (λ e. e.mapping ≡ c.mapping) → (told c (r >>= λ e. Ok (e, reply))).0.mapping ≡ c.mapping
      each (Ok e) same = same
      each (Err f) same = refl

  a_write : (w : Write) → (told c (written c w)).0.mapping ≡ c.mapping
  a_write w = each (copy_step c (input_of w)) (step_under c (input_of w))
    where
      each : (r : Step) → Under c r → (told c (r >>= λ s. refreshed_after w.refresh s.copy >>= λ d. Ok (d, reply_of (members_of s.copy.role) s.answer))).0.mapping ≡ c.mapping
      each (Ok s) same = with_refresh w.refresh (reply_of (members_of s.copy.role) s.answer) s.copy same
      each (Err f) same = refl

  a_bulk : (ws : List Write) → (told c (bulk_written c ws)).0.mapping ≡ c.mapping
  a_bulk ws = (elim (is_bulk (length ws)) as (λ b. (told c (if b then (copy_step c (bulk_of ws) >>= λ s. Ok (s.copy, bulk_reply_of (members_of s.copy.role) s.answer)) else Ok (c, refused refusal.Mismatch))).0.mapping ≡ c.mapping) [
    | true ↦ one_step (λ s. bulk_reply_of (members_of s.copy.role) s.answer) (copy_step c (bulk_of ws)) (step_under c (bulk_of ws))
    | false ↦ refl
  ])

  a_step : (i : Input) → (told c (taken c i)).0.mapping ≡ c.mapping
  a_step i = one_step (λ s. reply_of (members_of s.copy.role) s.answer) (copy_step c i) (step_under c i)

  tells : (x : Command) → (told c (asked c x)).0.mapping ≡ c.mapping
  tells (write w) = a_write w
  tells (bulk_of_writes ws) = a_bulk ws
  tells (get id) = a_step (Getting id)
  tells (search q page) = refl
  tells (count q) = refl
  tells refresh = a_step Refreshing
  tells (promote copy) = refl

  left_under : (i : Input) → (left_by c (copy_step c i)).mapping ≡ c.mapping
  left_under i = each (copy_step c i) (step_under c i)
    where
      each : (r : Step) → Under c r → (left_by c r).mapping ≡ c.mapping
      each (Ok s) h = h
      each (Err e) h = refl

  same_copy : (d : Copy) → d ≡ c → d.mapping ≡ c.mapping
  same_copy d same = ap (λ (x : Copy). x.mapping) same

  in_part : (i : Input) (d : Copy) → (d ≡ c) ⊎ (d ≡ left_by c (copy_step c i)) → d.mapping ≡ c.mapping
  in_part i d h = ⊎_elim (same_copy d) (λ is. ap (λ (x : Copy). x.mapping) is ∙ left_under i) h

  parts : (x : Command) (d : Copy) → IsPartOf x c d → d.mapping ≡ c.mapping
  parts (write w) d h = in_part (input_of w) d h
  parts (bulk_of_writes ws) d h = in_part (bulk_of ws) d h
  parts (get id) d h = same_copy d h
  parts (search q page) d h = same_copy d h
  parts (count q) d h = same_copy d h
  parts refresh d h = same_copy d h
  parts (promote copy) d h = same_copy d h

module _ (s t : Logged) where
  of_failed : (x : Command) → HasFailedIn x s t → IsUnder s t
  of_failed (write w) h = h.failed.copy.mapping
  of_failed (bulk_of_writes ws) h = h.failed.copy.mapping
  of_failed (get id) h = absurd h
  of_failed (search q page) h = absurd h
  of_failed (count q) h = absurd h
  of_failed refresh h = absurd h
  of_failed (promote copy) h = absurd h

  of_answered : (x : Command) (r : Reply) → IsAnswered s x r t → IsUnder s t
  of_answered x r is = by_state s.closed opened (λ closed. of_equal s t (is.closed closed).1)
    where
      exactly : s.closed ≡ false → is_failure r ≡ false → IsUnder s t
      exactly now_open fine = ap (λ (p : Copy × Reply). p.0.mapping) (is.exact now_open fine) ∙ tells s.copy x

      opened : s.closed ≡ false → IsUnder s t
      opened now_open = by_state (is_failure r) (exactly now_open) (λ h. ⊎_elim (λ e. parts s.copy x t.copy (is.memory now_open e)) (λ e. of_failed x (is.failed now_open e)) (failure r h))

pub asked_under : (writes : Bool) (s u t : Logged) (m n : ruler.Logged) (x : Command) (r : Reply) → IsReady writes s u m n → IsAnswered u x r t → IsUnder s t
asked_under writes s u t m n x r ready is = of_answered u t x r is ∙ ready_under writes s u m n ready
