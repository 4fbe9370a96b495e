-- What a step of any copy keeps.
use Rattle.std.proofs.Common.{◌≡◌, ◌+◌, ℕ, ℤ, zero, suc, Bool, true, false, List, [], ◌∷◌, ◌++◌, Option, Some, None, Result, Ok, Err, IfOk, refl, sym, ap, subst, ◌∙◌}
use Rattle.std.specs.Prelude.{◌==◌, ◌&&◌, nat_lt, ⊤, not}
use Rattle.doc.specs.Outcome.{◌>>=◌}
use Rattle.op.specs.declared.operation.Op.{Op}
use Rattle.op.specs.declared.record.Record.{Record}
use Rattle.op.specs.declared.record.Record.TheVariants.{Resync as Resynced, Recover as Recovered}
use Rattle.op.specs.declared.message.Content.{Content}
use Rattle.op.specs.declared.message.Content.TheVariants.{Op as Operation, Ack, Promoted, Resync, Track, Recover, Synced, Fail, Removed}
use Rattle.op.specs.declared.message.Msg.{Msg}
use Rattle.op.specs.Checkpoint.{known}
use Rattle.op.specs.Ids.{has}
use Rattle.op.specs.Operations.{IsAscending, op_at}
use Rattle.op.specs.Records.{IsRecord, operations}
use Rattle.op.proofs.RecordLaws.{IsAscending-after, operations-push}
use Rattle.op.proofs.RulesLaws.{record_is}
use Rattle.replica.specs.declared.fault.CopyFault.{CopyFault}
use Rattle.replica.specs.declared.fault.CopyFault.TheVariants.{Mismatch, NotSynced, OldTerm, WrongAddress}
use Rattle.replica.specs.declared.input.Input.{Input}
use Rattle.replica.specs.declared.input.Input.TheVariants.{Write as Client, Bulk, Take, Report as Reporting, Refresh as Refreshing, Get as Getting, Restart as Restarting}
use Rattle.replica.specs.declared.role.Role.{Role}
use Rattle.replica.specs.declared.role.Role.TheVariants.{Empty, Replica, Primary}
use Rattle.replica.specs.declared.role.Lead.{Lead}
use Rattle.replica.specs.Copy.{Copy}
use Rattle.replica.specs.Shape.{is_shaped}
use Rattle.replica.specs.Step.{Step, copy_step, first_fault, handled, is_empty, is_recover, leave, may_be_later, resync_again, settled, settled_as, take, take_ack, take_content, take_marked, take_op, take_over, take_recover, take_removed, take_resync, take_track, track, unless}
use Rattle.promises.specs.Copies.{is_reset, resets}
use Rattle.promises.proofs.Steps.{Keeps, Later, on_promoted, on_settled, on_unless, same, step_keeps, wrote}

module _ (c : Copy) (up : IsAscending (operations c.records)) where
  -- ---- messages that are no resets

  on_over : (from : ℕ) (g : ℤ) (o : Op) (p : Option Op) → Keeps c up (take_over c from g o p)
  on_over from g o (Some p) = on_unless c up _ _ (same c up _ refl refl)
  on_over from g o None = on_unless c up _ _ (wrote c up _ g o refl refl)

  on_op : (from : ℕ) (g : ℤ) (o : Op) (role : Role) → Keeps c up (take_op c from g o role)
  on_op from g o Empty = on_over from g o (op_at (operations c.records) o.seq)
  on_op from g o Replica = on_over from g o (op_at (operations c.records) o.seq)
  on_op from g o (Primary lead) = tt

  on_marked : (lead : Lead) (r : ℕ) (new : List ℕ) (b : Bool) → Keeps c up (take_marked c lead r new b)
  on_marked lead r new true = same c up _ refl refl
  on_marked lead r new false = same c up _ refl refl

  on_ack : (r seq below : ℕ) (role : Role) → Keeps c up (take_ack c r seq below role)
  on_ack r seq below Empty = tt
  on_ack r seq below Replica = tt
  on_ack r seq below (Primary lead) = on_unless c up _ _ (on_marked lead r _ _)

  on_tracked : (lead : Lead) (r : ℕ) (b : Bool) → Keeps c up (track c lead r b)
  on_tracked lead r true = same c up _ refl refl
  on_tracked lead r false = same c up _ refl refl

  on_track : (r : ℕ) (role : Role) → Keeps c up (take_track c r role)
  on_track r Empty = tt
  on_track r Replica = tt
  on_track r (Primary lead) = on_unless c up _ _ (on_tracked lead r (has lead.members r))

  on_leave : (lead : Lead) (r : ℕ) (b : Bool) → Keeps c up (leave c lead r b)
  on_leave lead r true = same c up _ refl refl
  on_leave lead r false = same c up _ refl refl

  on_removed : (r : ℕ) (role : Role) → Keeps c up (take_removed c r role)
  on_removed r Empty = tt
  on_removed r Replica = tt
  on_removed r (Primary lead) = on_unless c up _ _ (on_leave lead r (has lead.out r))

  on_content : (from term : ℕ) (k : Content) → resets k ≡ false → Keeps c up (take_content c from term k)
  on_content from term (Operation g o) apart = on_op from g o c.role
  on_content from term (Ack seq below) apart = on_ack from (known seq) (known below) c.role
  on_content from term (Promoted set) apart = on_promoted c up term set (term == c.term)
  on_content from term (Resync g tail) apart = absurd (let never : true ≡ false = apart in cc)
  on_content from term (Track r) apart = on_track r c.role
  on_content from term (Recover all) apart = absurd (let never : true ≡ false = apart in cc)
  on_content from term (Removed r) apart = on_removed r c.role
  on_content from term (Synced r) apart = tt
  on_content from term (Fail r) apart = tt

  -- a step keeps what the copy has
  pub goes_on : (input : Input) → is_reset input ≡ false → IfOk (copy_step c input) (λ s. Later s.copy c)
  goes_on (Take m) apart = on_settled c up (handled c (Take m)) (on_unless c up _ _ (on_content m.from m.term m.content apart))
  goes_on (Client w) apart = step_keeps c up (Client w) tt
  goes_on (Bulk ws) apart = step_keeps c up (Bulk ws) tt
  goes_on (Reporting r) apart = step_keeps c up (Reporting r) tt
  goes_on Refreshing apart = step_keeps c up Refreshing tt
  goes_on (Getting id) apart = step_keeps c up (Getting id) tt
  goes_on Restarting apart = step_keeps c up Restarting tt

  -- ---- any step leaves operations in order

  abbrev pub Rises : Step → Type 0
  Rises r = IfOk r (λ s. IsAscending (operations s.copy.records))

  rises_unless : (fs : List (Bool × CopyFault)) (s : Step) → Rises s → Rises (unless fs s)
  unfolding unless
  rises_unless fs s h = elim (first_fault fs) as (λ r. Rises (r >>= λ none. s)) [ Ok u ↦ h | Err e ↦ tt ]

  -- past the last of some faults
  rises_past : (fs : List (Bool × CopyFault)) (b : Bool) (f : CopyFault) (s : Step) → (b ≡ false → Rises s) → Rises (unless (fs ++ (b, f) ∷ []) s)
  unfolding unless
  rises_past [] true f s h = tt
  rises_past [] false f s h = h refl
  rises_past ((true, e) ∷ fs) b f s h = tt
  rises_past ((false, e) ∷ fs) b f s h = rises_past fs b f s h

  kept_with : (r : Record) → IsRecord r → IsAscending (operations (c.records ++ r ∷ []))
  kept_with r is = subst IsAscending (sym (operations-push c.records r)) (IsAscending-after (operations c.records) r up is)

  rises_again : (from : ℕ) (role : Role) → Rises (resync_again c from role)
  rises_again from Empty = up
  rises_again from Replica = up
  rises_again from (Primary lead) = tt

  rises_resync : (from term : ℕ) (g : ℤ) (tail : List Op) → IsRecord (Resynced term g tail) → (b : Bool) → Rises (take_resync c from term g tail b)
  rises_resync from term g tail is true = rises_again from c.role
  rises_resync from term g tail is false = rises_unless _ _ (kept_with (Resynced term g tail) is)

  rises_recover : (from term : ℕ) (all : List Op) → IsRecord (Recovered term all) → (role : Role) → Rises (take_recover c from term all role)
  rises_recover from term all is Empty = rises_unless _ _ (kept_with (Recovered term all) is)
  rises_recover from term all is Replica = rises_unless _ _ up
  rises_recover from term all is (Primary lead) = rises_unless _ _ up

  rises_kept : (r : Step) → Keeps c up r → Rises r
  rises_kept (Ok s) h = h.ascending
  rises_kept (Err e) h = tt

  rises_content : (from term : ℕ) (k : Content) → is_shaped c.id term k ≡ true → Rises (take_content c from term k)
  rises_content from term (Resync g tail) shaped = rises_resync from term g tail (record_is (Resynced term g tail) shaped) (term == c.term)
  rises_content from term (Recover all) shaped = rises_recover from term all (record_is (Recovered term all) shaped) c.role
  rises_content from term (Operation g o) shaped = rises_kept _ (on_content from term (Operation g o) refl)
  rises_content from term (Ack seq below) shaped = rises_kept _ (on_content from term (Ack seq below) refl)
  rises_content from term (Promoted set) shaped = rises_kept _ (on_content from term (Promoted set) refl)
  rises_content from term (Track r) shaped = rises_kept _ (on_content from term (Track r) refl)
  rises_content from term (Removed r) shaped = rises_kept _ (on_content from term (Removed r) refl)
  rises_content from term (Synced r) shaped = tt
  rises_content from term (Fail r) shaped = tt

  shaped_by : (b : Bool) → not b ≡ false → b ≡ true
  shaped_by true h = refl
  shaped_by false h = absurd (let never : true ≡ false = h in cc)

  rises_settled : (r : Step) → Rises r → Rises (settled r)
  rises_settled (Ok s) h = as_role s.copy.role
    where
      as_role : (role : Role) → Rises (Ok (settled_as s role))
      as_role Empty = h
      as_role Replica = h
      as_role (Primary lead) = h
  rises_settled (Err e) h = tt

  -- what a message is refused for before its shape
  abbrev before_shape : Msg → List (Bool × CopyFault)
  before_shape m = (not (m.to == c.id), WrongAddress) ∷ (is_empty c.role && not (is_recover m.content), NotSynced) ∷ (nat_lt m.term c.term, OldTerm) ∷ (nat_lt c.term m.term && not (may_be_later m.content), NotSynced) ∷ []

  rises_taken : (m : Msg) → Rises (take c m)
  rises_taken m =
      rises_past (before_shape m) (not (is_shaped c.id m.term m.content)) Mismatch (take_content c m.from m.term m.content)
      (λ h. rises_content m.from m.term m.content (shaped_by (is_shaped c.id m.term m.content) h))

  pub rises : (input : Input) → Rises (copy_step c input)
  rises (Take m) = rises_settled (handled c (Take m)) (rises_taken m)
  rises (Client w) = rises_kept (copy_step c (Client w)) (goes_on (Client w) refl)
  rises (Bulk ws) = rises_kept (copy_step c (Bulk ws)) (goes_on (Bulk ws) refl)
  rises (Reporting r) = rises_kept (copy_step c (Reporting r)) (goes_on (Reporting r) refl)
  rises Refreshing = rises_kept (copy_step c Refreshing) (goes_on Refreshing refl)
  rises (Getting id) = rises_kept (copy_step c (Getting id)) (goes_on (Getting id) refl)
  rises Restarting = rises_kept (copy_step c Restarting) (goes_on Restarting refl)
