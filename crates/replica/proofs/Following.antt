-- What a copy takes of its primary.
use Rattle.std.proofs.Common.{◌≡◌, ℕ, ℤ, ◌+◌, ◌≤◌, max, pos, true, false, List, [], ◌∷◌, length, Some, None, refl, sym, ap, subst, ◌∙◌}
use Rattle.std.specs.Prelude.{Result, Ok, Err, ◌==◌, nat_lt, nat_le}
use Rattle.doc.specs.Outcome.{Gives}
use Rattle.op.specs.declared.operation.Op.{Op}
use Rattle.op.specs.declared.record.Record.{Record}
use Rattle.op.specs.declared.record.Record.TheVariants.{Op as Kept, Resync as Resynced, Recover as Recovered}
use Rattle.op.specs.Checkpoint.{checkpoint_of, known}
use Rattle.op.specs.Operations.{IsAscending, is_op, local_count, local_checkpoint, op_at}
use Rattle.op.specs.Records.{IsRecord}
use Rattle.op.proofs.LocalLaws.{local_count-recovered, local_count-resynced}
use Rattle.op.proofs.RecordLaws.{operations-Recover, operations-Resync}
use Rattle.replica.specs.declared.fault.CopyFault.{CopyFault}
use Rattle.replica.specs.declared.fault.CopyFault.TheVariants.{BeyondWindow, Mismatch}
use Rattle.replica.specs.declared.output.Answer.TheVariants.{Repeated, Taken}
use Rattle.replica.specs.declared.planned.Planned.{Planned}
use Rattle.replica.specs.declared.role.Role.{Role}
use Rattle.replica.specs.declared.role.Role.TheVariants.{Empty, Replica, Primary}
use Rattle.replica.specs.Copy.{Copy, operations}
use Rattle.replica.specs.Fault.{fault_of}
use Rattle.replica.specs.Planned.{ack_all_of, op_gives, recover_gives, recovery_of, resync_gives, spelled, stepped_by}
use Rattle.replica.specs.Standing.{IsFollower, IsLeader, IsStanding}
use Rattle.replica.specs.Step.{Step, Stepped, ack, done, recovery, recover_again, settled, settled_as, spellable, take_new, take_op, take_over, take_recover, take_resync, unless, resynced, recovered}
use Rattle.replica.proofs.Settled.{settled_done}
use Rattle.replica.proofs.Settling.{spelled_step}

-- a copy that isn't the primary settles nothing
as_follower : (s : Stepped) (role : Role) → IsFollower role → settled_as s role ≡ s
as_follower s Empty h = refl
as_follower s Replica h = refl
as_follower s (Primary lead) h = absurd h

abbrev ok : Stepped → Step
ok s = Ok s

-- ---- operations

module _ (c : Copy) (from : ℕ) (g : ℤ) (o : Op) where
  at_leader : (role : Role) → IsLeader role → take_op c from g o role ≡ Err Mismatch
  at_leader Empty h = absurd h
  at_leader Replica h = absurd h
  at_leader (Primary lead) h = refl

  at_follower : (role : Role) → IsFollower role → take_op c from g o role ≡ take_over c from g o (op_at (operations c) o.seq)
  at_follower Empty h = refl
  at_follower Replica h = refl
  at_follower (Primary lead) h = absurd h

  pub op_at_leader : IsLeader c.role → settled (take_op c from g o c.role) ≡ Err Mismatch
  op_at_leader h = ap settled (at_leader c.role h)

  over_other : (p : Op) → is_op o p ≡ false → take_over c from g o (Some p) ≡ Err Mismatch
  unfolding unless
  over_other p other = rw other refl

  over_same : (p : Op) → is_op o p ≡ true → take_over c from g o (Some p) ≡ done c Repeated (ack c from (pos o.seq) ∷ [])
  unfolding unless
  over_same p same = rw same refl

  pub op_other : (p : Op) → IsFollower c.role → op_at (operations c) o.seq ≡ Some p → is_op o p ≡ false → settled (take_op c from g o c.role) ≡ Err Mismatch
  op_other p follows there other = ap settled (at_follower c.role follows) ∙ ap (λ q. settled (take_over c from g o q)) there ∙ ap settled (over_other p other)

  pub op_again : (p : Op) → IsStanding c → IsFollower c.role → op_at (operations c) o.seq ≡ Some p → is_op o p ≡ true → settled (take_op c from g o c.role) ≡ done c Repeated (ack c from (pos o.seq) ∷ [])
  op_again p stands follows there same =
      ap settled (at_follower c.role follows) ∙ ap (λ q. settled (take_over c from g o q)) there ∙ ap settled (over_same p same) ∙ settled_done c Repeated _ stands

  pub op_new : IsFollower c.role → op_at (operations c) o.seq ≡ None → settled (take_op c from g o c.role) ≡ settled (take_new c from g o)
  op_new follows free = ap settled (at_follower c.role follows) ∙ ap (λ q. settled (take_over c from g o q)) free

  pub new_beyond : nat_le (local_count (operations c) + 1024) o.seq ≡ true → settled (take_new c from g o) ≡ Err BeyondWindow
  unfolding unless
  new_beyond beyond = rw beyond refl

  new_within : nat_le (local_count (operations c) + 1024) o.seq ≡ false → take_new c from g o ≡ unless (spellable (Kept g o)) (ok (op_gives c from g o))
  unfolding unless
  new_within within = rw within refl

  -- an operation that is refused for its size alone
  pub new_spelled : (p : Planned) (r : Result Planned CopyFault) → nat_le (local_count (operations c) + 1024) o.seq ≡ false → IsFollower c.role → p.next_record ≡ Kept g o → stepped_by c p ≡ op_gives c from g o
      → Gives fault_of (λ (x : Planned). x) r (spelled p) → Gives fault_of (stepped_by c) r (settled (take_new c from g o))
  new_spelled p r within follows kept gives sized =
      subst (λ (step : Step). Gives fault_of (stepped_by c) r step) (ap (λ (x : Record). settled (unless (spellable x) (ok (op_gives c from g o)))) kept ∙ ap settled (sym (new_within within)))
      (spelled_step c p r (ok (op_gives c from g o)) sized (ap ok (as_follower (op_gives c from g o) c.role follows ∙ sym gives)))

-- ---- resyncs

module _ (c : Copy) (from term : ℕ) (g : ℤ) (tail : List Op) where
  pub resync_beyond : (term == c.term) ≡ false → nat_lt (local_count (operations c)) (known g) ≡ true → settled (take_resync c from term g tail (term == c.term)) ≡ Err Mismatch
  unfolding unless
  resync_beyond new beyond = rw (new, beyond) refl

  resync_within : (term == c.term) ≡ false → nat_lt (local_count (operations c)) (known g) ≡ false → take_resync c from term g tail (term == c.term) ≡ unless (spellable (Resynced term g tail)) (ok (resync_gives c from term g tail))
  unfolding unless
  resync_within new within = rw (new, within) refl

  pub resync_spelled : (p : Planned) (r : Result Planned CopyFault) → (term == c.term) ≡ false → nat_lt (local_count (operations c)) (known g) ≡ false → p.next_record ≡ Resynced term g tail → stepped_by c p ≡ resync_gives c from term g tail
      → Gives fault_of (λ (x : Planned). x) r (spelled p) → Gives fault_of (stepped_by c) r (settled (take_resync c from term g tail (term == c.term)))
  resync_spelled p r new within kept gives sized =
      subst (λ (step : Step). Gives fault_of (stepped_by c) r step) (ap (λ (x : Record). settled (unless (spellable x) (ok (resync_gives c from term g tail)))) kept ∙ ap settled (sym (resync_within new within)))
      (spelled_step c p r (ok (resync_gives c from term g tail)) sized (ap ok (sym gives)))

  -- its local checkpoint is then that of the tail's end
  resync_local : IsAscending (operations c) → IsRecord (Resynced term g tail) → known g ≤ local_count (operations c) → local_checkpoint (operations (resynced c term g tail)) ≡ checkpoint_of (known g + length tail)
  resync_local up is there = ap local_checkpoint (operations-Resync c.records term g tail) ∙ ap checkpoint_of (local_count-resynced (known g) (operations c) tail up there is.2.runs)

  pub resync_found : IsAscending (operations c) → IsRecord (Resynced term g tail) → known g ≤ local_count (operations c) →
      stepped_by c (record { next_record = Resynced term g tail; term = term; known = max c.known (known g); role = Replica; output = record { answer = Taken; sent = ack_all_of c.id from term (known g + length tail) ∷ []; acknowledged = []; members = 0 } }) ≡ resync_gives c from term g tail
  resync_found up is there = rw (resync_local up is there) refl

-- ---- recoveries

module _ (c : Copy) (from term : ℕ) where
  pub recover_other : (term == c.term) ≡ false → settled (recover_again c from term) ≡ Err Mismatch
  unfolding unless
  recover_other other = rw other refl

  again : (term == c.term) ≡ true → recover_again c from term ≡ done c Repeated (recovery c from)
  unfolding unless
  again same = rw same refl

  pub recover_same : IsStanding c → (term == c.term) ≡ true → settled (recover_again c from term) ≡ done c Repeated (recovery c from)
  recover_same stands same = ap settled (again same) ∙ settled_done c Repeated _ stands

  module _ (all : List Op) where
    pub recover_spelled : (p : Planned) (r : Result Planned CopyFault) → c.role ≡ Empty → p.next_record ≡ Recovered term all → stepped_by c p ≡ recover_gives c from term all
        → Gives fault_of (λ (x : Planned). x) r (spelled p) → Gives fault_of (stepped_by c) r (settled (take_recover c from term all c.role))
    recover_spelled p r empty kept gives sized =
        subst (λ (step : Step). Gives fault_of (stepped_by c) r step) (ap (λ (x : Record). settled (unless (spellable x) (ok (recover_gives c from term all)))) kept ∙ ap (λ (role : Role). settled (take_recover c from term all role)) (sym empty))
        (spelled_step c p r (ok (recover_gives c from term all)) sized (ap ok (sym gives)))

    recover_local : IsRecord (Recovered term all) → local_checkpoint (operations (recovered c term all)) ≡ checkpoint_of (length all)
    recover_local is = ap local_checkpoint (operations-Recover c.records term all) ∙ ap checkpoint_of (local_count-recovered all is.1.runs)

    pub recover_found : IsRecord (Recovered term all) →
        stepped_by c (record { next_record = Recovered term all; term = term; known = c.known; role = Replica; output = record { answer = Taken; sent = recovery_of c.id from term (length all); acknowledged = []; members = 0 } }) ≡ recover_gives c from term all
    recover_found is = rw (recover_local is) refl
