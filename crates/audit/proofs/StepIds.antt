-- A step of a copy leaves its id, birth and mapping.
use Rattle.std.proofs.Common.{◌≡◌, ℕ, ℤ, Bool, true, false, List, [], ◌∷◌, Option, Some, None, Ok, Err, IfOk, refl, ◌∙◌}
use Rattle.std.specs.Prelude.{◌==◌, nat_eq}
use Rattle.std.specs.Cmp.Lexicographic.{pointwise}
use Rattle.doc.specs.Outcome.{◌>>=◌}
use Rattle.op.specs.declared.operation.Op.{Op}
use Rattle.op.specs.declared.message.Content.{Content}
use Rattle.op.specs.declared.message.Content.TheVariants.{Op as Operation, Ack, Promoted, Resync, Track, Recover, Synced, Fail, Removed}
use Rattle.op.specs.Checkpoint.{known}
use Rattle.op.specs.Ids.{has}
use Rattle.op.specs.Operations.{op_at}
use Rattle.checkpoint.specs.Numbers.{marked}
use Rattle.replica.specs.declared.fault.CopyFault.{CopyFault}
use Rattle.replica.specs.declared.input.Write.{Write}
use Rattle.replica.specs.declared.input.Input.{Input}
use Rattle.replica.specs.declared.input.Input.TheVariants.{Write as Client, Bulk as ClientBulk, Take, Report as Reporting, Refresh as Refreshing, Get as Getting, Restart as Restarting}
use Rattle.replica.specs.declared.role.Lead.{Lead}
use Rattle.replica.specs.declared.role.Role.{Role}
use Rattle.replica.specs.declared.role.Role.TheVariants.{Empty, Replica, Primary}
use Rattle.replica.specs.Acks.{acks_of}
use Rattle.replica.specs.Copy.{Copy, operations}
use Rattle.replica.specs.Step.{Step, Folded, unwritten, with_write, write_step, folded, bulk, copy_step, handled, settled, settled_as, unless, first_fault, client, take_content, take_op, take_over, take_ack, take_marked, take_promoted, take_resync, resync_again, take_track, track, take_recover, recover_again, take_removed, leave, report}

-- the same copy of the same index
abbrev Kin : Copy → Copy → Type 0
Kin c d = (d.id ≡ c.id) × (d.birth ≡ c.birth) × (d.mapping ≡ c.mapping)

kin : (a b c : Copy) → Kin a b → Kin b c → Kin a c
kin a b c x y = (y.0 ∙ x.0, y.1 ∙ x.1, y.2 ∙ x.2)

module _ (c : Copy) where
  abbrev pub Same : Step → Type 0
  Same r = IfOk r (λ s. Kin c s.copy)

  on_unless : (fs : List (Bool × CopyFault)) (s : Step) → Same s → Same (unless fs s)
  unfolding unless
  on_unless fs s h = elim (first_fault fs) as (λ r. Same (r >>= λ none. s)) [ Ok u ↦ h | Err e ↦ tt ]

  on_client : (w : Write) (role : Role) → Same (client c w role)
  on_client w Empty = tt
  on_client w Replica = tt
  on_client w (Primary lead) = on_unless _ _ (refl, refl, refl)

  on_over : (from : ℕ) (g : ℤ) (o : Op) (there : Option Op) → Same (take_over c from g o there)
  on_over from g o (Some p) = on_unless _ _ (refl, refl, refl)
  on_over from g o None = on_unless _ _ (refl, refl, refl)

  on_op : (from : ℕ) (g : ℤ) (o : Op) (role : Role) → Same (take_op c from g o role)
  on_op from g o Empty = on_over from g o (op_at (operations c) o.seq)
  on_op from g o Replica = on_over from g o (op_at (operations c) o.seq)
  on_op from g o (Primary lead) = tt

  on_marked : (lead : Lead) (r : ℕ) (new : List ℕ) (again : Bool) → Same (take_marked c lead r new again)
  on_marked lead r new true = (refl, refl, refl)
  on_marked lead r new false = (refl, refl, refl)

  on_ack : (r seq below : ℕ) (role : Role) → Same (take_ack c r seq below role)
  on_ack r seq below Empty = tt
  on_ack r seq below Replica = tt
  on_ack r seq below (Primary lead) = on_unless _ _ (on_marked lead r (marked (acks_of lead.acks r) seq below) (pointwise nat_eq (acks_of lead.acks r) (marked (acks_of lead.acks r) seq below)))

  on_promoted : (term : ℕ) (set : List ℕ) (again : Bool) → Same (take_promoted c term set again)
  on_promoted term set true = (refl, refl, refl)
  on_promoted term set false = on_unless _ _ (refl, refl, refl)

  on_again : (from : ℕ) (role : Role) → Same (resync_again c from role)
  on_again from Empty = (refl, refl, refl)
  on_again from Replica = (refl, refl, refl)
  on_again from (Primary lead) = tt

  on_resync : (from term : ℕ) (g : ℤ) (tail : List Op) (again : Bool) → Same (take_resync c from term g tail again)
  on_resync from term g tail true = on_again from c.role
  on_resync from term g tail false = on_unless _ _ (refl, refl, refl)

  on_tracked : (lead : Lead) (r : ℕ) (again : Bool) → Same (track c lead r again)
  on_tracked lead r true = (refl, refl, refl)
  on_tracked lead r false = (refl, refl, refl)

  on_track : (r : ℕ) (role : Role) → Same (take_track c r role)
  on_track r Empty = tt
  on_track r Replica = tt
  on_track r (Primary lead) = on_unless _ _ (on_tracked lead r (has lead.members r))

  on_recovered : (from term : ℕ) → Same (recover_again c from term)
  on_recovered from term = on_unless _ _ (refl, refl, refl)

  on_recover : (from term : ℕ) (all : List Op) (role : Role) → Same (take_recover c from term all role)
  on_recover from term all Empty = on_unless _ _ (refl, refl, refl)
  on_recover from term all Replica = on_recovered from term
  on_recover from term all (Primary lead) = on_recovered from term

  on_leave : (lead : Lead) (r : ℕ) (again : Bool) → Same (leave c lead r again)
  on_leave lead r true = (refl, refl, refl)
  on_leave lead r false = (refl, refl, refl)

  on_removed : (r : ℕ) (role : Role) → Same (take_removed c r role)
  on_removed r Empty = tt
  on_removed r Replica = tt
  on_removed r (Primary lead) = on_unless _ _ (on_leave lead r (has lead.out r))

  on_content : (from term : ℕ) (k : Content) → Same (take_content c from term k)
  on_content from term (Operation g o) = on_op from g o c.role
  on_content from term (Ack s l) = on_ack from (known s) (known l) c.role
  on_content from term (Promoted set) = on_promoted term set (term == c.term)
  on_content from term (Resync g tail) = on_resync from term g tail (term == c.term)
  on_content from term (Track r) = on_track r c.role
  on_content from term (Recover all) = on_recover from term all c.role
  on_content from term (Removed r) = on_removed r c.role
  on_content from term (Synced r) = tt
  on_content from term (Fail r) = tt

  on_report : (r : ℕ) (role : Role) → Same (report c r role)
  on_report r Empty = tt
  on_report r Replica = tt
  on_report r (Primary lead) = on_unless _ _ (refl, refl, refl)

  on_settled : (r : Step) → Same r → Same (settled r)
  on_settled (Ok s) same = as_role s.copy.role
    where
      as_role : (role : Role) → Same (Ok (settled_as s role))
      as_role Empty = same
      as_role Replica = same
      as_role (Primary lead) = same
  on_settled (Err e) same = tt

-- ---- bulks

folds : (c : Copy) (ws : List Write) (b : Folded) → Kin c b.copy → Kin c (folded b ws).copy
folds c [] b same = same
folds c (w ∷ ws) b same = folds c ws (with_write b (write_step b.copy w)) (one (write_step b.copy w) (on_settled b.copy (client b.copy w b.copy.role) (on_client b.copy w b.copy.role)))
  where
    one : (r : Step) → Same b.copy r → Kin c (with_write b r).copy
    one (Ok s) next = kin c b.copy s.copy same next
    one (Err e) next = same

on_bulk : (c : Copy) (ws : List Write) (role : Role) → Same c (bulk c ws role)
on_bulk c ws Empty = tt
on_bulk c ws Replica = tt
on_bulk c ws (Primary lead) = folds c ws (unwritten c) (refl, refl, refl)

-- ---- all inputs

module _ (c : Copy) where
  pub step-same : (input : Input) → Same c (copy_step c input)
  step-same (Client w) = on_settled c (handled c (Client w)) (on_client c w c.role)
  step-same (ClientBulk ws) = on_bulk c ws c.role
  step-same (Take m) = on_settled c (handled c (Take m)) (on_unless c _ _ (on_content c m.from m.term m.content))
  step-same (Reporting r) = on_settled c (handled c (Reporting r)) (on_report c r c.role)
  step-same Refreshing = on_settled c (handled c Refreshing) (refl, refl, refl)
  step-same (Getting id) = on_settled c (handled c (Getting id)) (refl, refl, refl)
  step-same Restarting = on_settled c (handled c Restarting) (refl, refl, refl)

  pub step-id : (input : Input) → IfOk (copy_step c input) (λ s. s.copy.id ≡ c.id)
  step-id input = first (copy_step c input) (step-same input)
    where
      first : (r : Step) → Same c r → IfOk r (λ s. s.copy.id ≡ c.id)
      first (Ok s) same = same.0
      first (Err e) same = tt
