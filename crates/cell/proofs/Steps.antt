-- A step of a copy leaves its mapping and its records, or adds some.
use Rattle.std.proofs.Common.{◌≡◌, ℕ, ℤ, Bool, true, false, List, [], ◌∷◌, ◌++◌, Option, Some, None, Ok, Err, IfOk, refl, sym, ◌∙◌, append-nil}
use Rattle.std.specs.Prelude.{◌==◌, nat_eq}
use Rattle.std.specs.Cmp.Lexicographic.{pointwise}
use Rattle.doc.specs.Outcome.{◌>>=◌}
use Rattle.op.specs.declared.operation.Op.{Op}
use Rattle.op.specs.declared.record.Record.{Record}
use Rattle.op.specs.declared.message.Content.{Content}
use Rattle.op.specs.declared.message.Content.TheVariants.{Op as Operation, Ack, Promoted, Resync, Track, Recover, Synced, Fail, Removed}
use Rattle.op.specs.Checkpoint.{known}
use Rattle.op.specs.Ids.{has}
use Rattle.op.specs.Operations.{op_at}
use Rattle.checkpoint.specs.Numbers.{marked}
use Rattle.replica.specs.declared.fault.CopyFault.{CopyFault}
use Rattle.replica.specs.declared.input.Write.{Write}
use Rattle.replica.specs.declared.input.Input.{Input}
use Rattle.replica.specs.declared.input.Input.TheVariants.{Write as Client, Bulk, Take, Report as Reporting, Refresh as Refreshing, Get as Getting, Restart as Restarting}
use Rattle.replica.specs.declared.role.Lead.{Lead}
use Rattle.replica.specs.declared.role.Role.{Role}
use Rattle.replica.specs.declared.role.Role.TheVariants.{Empty, Replica, Primary}
use Rattle.published.proofs.Orders.{trans-StartsWith}
use Rattle.cell.specs.Publishing.{IsLater}
use Rattle.replica.specs.Acks.{acks_of}
use Rattle.replica.specs.Copy.{Copy, operations}
use Rattle.replica.specs.Step.{Folded, Step, bulk, copy_step, folded, unwritten, with_write, write_step, handled, settled, settled_as, unless, first_fault, client, take_content, take_op, take_over, take_ack, take_marked, take_promoted, take_resync, resync_again, take_track, track, take_recover, recover_again, take_removed, leave, report}

module _ (c : Copy) where
  abbrev pub Grows : Step → Type 0
  Grows r = IfOk r (λ s. IsLater s.copy c)

  all : (d : Copy) → d.mapping ≡ c.mapping → d.records ≡ c.records → IsLater d c
  all d mapping records = record { mapping = mapping; records = ([], records ∙ sym (append-nil c.records)) }

  more : (d : Copy) (r : Record) → d.mapping ≡ c.mapping → d.records ≡ c.records ++ r ∷ [] → IsLater d c
  more d r mapping records = record { mapping = mapping; records = (r ∷ [], records) }

  on_unless : (fs : List (Bool × CopyFault)) (s : Step) → Grows s → Grows (unless fs s)
  unfolding unless
  on_unless fs s h = elim (first_fault fs) as (λ r. Grows (r >>= λ none. s)) [ Ok u ↦ h | Err e ↦ tt ]

  on_client : (w : Write) (role : Role) → Grows (client c w role)
  on_client w Empty = tt
  on_client w Replica = tt
  on_client w (Primary lead) = on_unless _ _ (more _ _ refl refl)

  on_over : (from : ℕ) (g : ℤ) (o : Op) (there : Option Op) → Grows (take_over c from g o there)
  on_over from g o (Some p) = on_unless _ _ (all _ refl refl)
  on_over from g o None = on_unless _ _ (more _ _ refl refl)

  on_op : (from : ℕ) (g : ℤ) (o : Op) (role : Role) → Grows (take_op c from g o role)
  on_op from g o Empty = on_over from g o (op_at (operations c) o.seq)
  on_op from g o Replica = on_over from g o (op_at (operations c) o.seq)
  on_op from g o (Primary lead) = tt

  on_marked : (lead : Lead) (r : ℕ) (new : List ℕ) (again : Bool) → Grows (take_marked c lead r new again)
  on_marked lead r new true = all _ refl refl
  on_marked lead r new false = all _ refl refl

  on_ack : (r seq below : ℕ) (role : Role) → Grows (take_ack c r seq below role)
  on_ack r seq below Empty = tt
  on_ack r seq below Replica = tt
  on_ack r seq below (Primary lead) = on_unless _ _ (on_marked lead r (marked (acks_of lead.acks r) seq below) (pointwise nat_eq (acks_of lead.acks r) (marked (acks_of lead.acks r) seq below)))

  on_promoted : (term : ℕ) (set : List ℕ) (again : Bool) → Grows (take_promoted c term set again)
  on_promoted term set true = all _ refl refl
  on_promoted term set false = on_unless _ _ (more _ _ refl refl)

  on_again : (from : ℕ) (role : Role) → Grows (resync_again c from role)
  on_again from Empty = all _ refl refl
  on_again from Replica = all _ refl refl
  on_again from (Primary lead) = tt

  on_resync : (from term : ℕ) (g : ℤ) (tail : List Op) (again : Bool) → Grows (take_resync c from term g tail again)
  on_resync from term g tail true = on_again from c.role
  on_resync from term g tail false = on_unless _ _ (more _ _ refl refl)

  on_tracked : (lead : Lead) (r : ℕ) (again : Bool) → Grows (track c lead r again)
  on_tracked lead r true = all _ refl refl
  on_tracked lead r false = all _ refl refl

  on_track : (r : ℕ) (role : Role) → Grows (take_track c r role)
  on_track r Empty = tt
  on_track r Replica = tt
  on_track r (Primary lead) = on_unless _ _ (on_tracked lead r (has lead.members r))

  on_recovered : (from term : ℕ) → Grows (recover_again c from term)
  on_recovered from term = on_unless _ _ (all _ refl refl)

  on_recover : (from term : ℕ) (ops : List Op) (role : Role) → Grows (take_recover c from term ops role)
  on_recover from term ops Empty = on_unless _ _ (more _ _ refl refl)
  on_recover from term ops Replica = on_recovered from term
  on_recover from term ops (Primary lead) = on_recovered from term

  on_leave : (lead : Lead) (r : ℕ) (again : Bool) → Grows (leave c lead r again)
  on_leave lead r true = all _ refl refl
  on_leave lead r false = all _ refl refl

  on_removed : (r : ℕ) (role : Role) → Grows (take_removed c r role)
  on_removed r Empty = tt
  on_removed r Replica = tt
  on_removed r (Primary lead) = on_unless _ _ (on_leave lead r (has lead.out r))

  on_content : (from term : ℕ) (k : Content) → Grows (take_content c from term k)
  on_content from term (Operation g o) = on_op from g o c.role
  on_content from term (Ack s l) = on_ack from (known s) (known l) c.role
  on_content from term (Promoted set) = on_promoted term set (term == c.term)
  on_content from term (Resync g tail) = on_resync from term g tail (term == c.term)
  on_content from term (Track r) = on_track r c.role
  on_content from term (Recover ops) = on_recover from term ops c.role
  on_content from term (Removed r) = on_removed r c.role
  on_content from term (Synced r) = tt
  on_content from term (Fail r) = tt

  on_report : (r : ℕ) (role : Role) → Grows (report c r role)
  on_report r Empty = tt
  on_report r Replica = tt
  on_report r (Primary lead) = on_unless _ _ (all _ refl refl)

  on_settled : (r : Step) → Grows r → Grows (settled r)
  on_settled (Ok s) same = as_role s.copy.role
    where
      as_role : (role : Role) → Grows (Ok (settled_as s role))
      as_role Empty = same
      as_role Replica = same
      as_role (Primary lead) = record { mapping = same.mapping; records = same.records }
  on_settled (Err e) same = tt

-- ---- bulks

write-grows : (c : Copy) (w : Write) → Grows c (write_step c w)
write-grows c w = on_settled c (client c w c.role) (on_client c w c.role)

later_still : (a b c : Copy) → IsLater b a → IsLater c b → IsLater c a
later_still a b c one two = record { mapping = two.mapping ∙ one.mapping; records = trans-StartsWith a.records b.records c.records one.records two.records }

with-grows : (c : Copy) (b : Folded) (r : Step) → IsLater b.copy c → Grows b.copy r → IsLater (with_write b r).copy c
with-grows c b (Ok s) h one = later_still c b.copy s.copy h one
with-grows c b (Err e) h one = h

fold-grows : (c : Copy) (b : Folded) (ws : List Write) → IsLater b.copy c → IsLater (folded b ws).copy c
fold-grows c b [] h = h
fold-grows c b (w ∷ ws) h = fold-grows c (with_write b (write_step b.copy w)) ws (with-grows c b (write_step b.copy w) h (write-grows b.copy w))

bulk-grows : (c : Copy) (ws : List Write) (role : Role) → Grows c (bulk c ws role)
bulk-grows c ws Empty = tt
bulk-grows c ws Replica = tt
bulk-grows c ws (Primary lead) = fold-grows c (unwritten c) ws (all c c refl refl)

-- ---- all inputs

pub step-grows : (c : Copy) (input : Input) → Grows c (copy_step c input)
step-grows c (Client w) = write-grows c w
step-grows c (Bulk ws) = bulk-grows c ws c.role
step-grows c (Take m) = on_settled c (handled c (Take m)) (on_unless c _ _ (on_content c m.from m.term m.content))
step-grows c (Reporting r) = on_settled c (handled c (Reporting r)) (on_report c r c.role)
step-grows c Refreshing = on_settled c (handled c Refreshing) (all c _ refl refl)
step-grows c (Getting id) = on_settled c (handled c (Getting id)) (all c _ refl refl)
step-grows c Restarting = on_settled c (handled c Restarting) (all c _ refl refl)
