-- What a primary makes of messages that it keeps no record of, and of reports.
use Rattle.std.proofs.Common.{◌≡◌, ℕ, Bool, true, false, List, [], ◌∷◌, refl, ap, ◌∙◌}
use Rattle.std.specs.Prelude.{⊤, Ok, Err, ◌==◌, nat_eq}
use Rattle.std.specs.Ordering.{nat_cmp}
use Rattle.std.specs.FinMap.Entries.{put}
use Rattle.std.specs.Cmp.Lexicographic.{pointwise}
use Rattle.op.specs.declared.message.Content.TheVariants.{Fail, Recover}
use Rattle.op.specs.Ids.{has, with, without}
use Rattle.op.specs.Operations.{next_seq}
use Rattle.replica.specs.declared.fault.CopyFault.{CopyFault}
use Rattle.replica.specs.declared.fault.CopyFault.TheVariants.{Mismatch}
use Rattle.replica.specs.declared.output.Answer.TheVariants.{Repeated, Reported}
use Rattle.replica.specs.declared.role.Lead.{Lead}
use Rattle.replica.specs.declared.role.Role.{Role}
use Rattle.replica.specs.declared.role.Role.TheVariants.{Primary}
use Rattle.replica.specs.Copy.{Copy, operations}
use Rattle.replica.specs.Acks.{acks_of}
use Rattle.checkpoint.specs.Numbers.{marked}
use Rattle.replica.specs.Planned.{turned_step}
use Rattle.replica.specs.Standing.{IsStanding}
use Rattle.replica.specs.Step.{Step, done, message, settled, unless, first_fault, report, ack_faults, take_ack, take_marked, take_track, take_removed}
use Rattle.replica.proofs.Settled.{settled_done}
use Rattle.replica.proofs.Settling.{settled_passed, settled_refused}

module _ (c : Copy) (lead : Lead) (is : c.role ≡ Primary lead) where
  -- the step of a primary
  led_by_role : (step : Role → Step) → settled (step c.role) ≡ settled (step (Primary lead))
  led_by_role step = ap (λ (role : Role). settled (step role)) is

  -- ---- reports

  report_itself : (r : ℕ) → (r == c.id) ≡ true → report c r (Primary lead) ≡ Err Mismatch
  unfolding unless
  report_itself r own = rw own refl

  report_stranger : (r : ℕ) → (r == c.id) ≡ false → has lead.members r ≡ false → report c r (Primary lead) ≡ Err Mismatch
  unfolding unless
  report_stranger r own unknown = rw (own, unknown) refl

  report_other : (r : ℕ) → (r == c.id) ≡ false → has lead.members r ≡ true → report c r (Primary lead) ≡ done c Reported (message c 0 (Fail r) ∷ [])
  unfolding unless
  report_other r own member = rw (own, member) refl

  pub report_refused : (r : ℕ) → (r == c.id) ≡ true → settled (report c r c.role) ≡ Err Mismatch
  report_refused r own = led_by_role (report c r) ∙ ap settled (report_itself r own)

  pub report_unknown : (r : ℕ) → (r == c.id) ≡ false → has lead.members r ≡ false → settled (report c r c.role) ≡ Err Mismatch
  report_unknown r own unknown = led_by_role (report c r) ∙ ap settled (report_stranger r own unknown)

  pub report_accepted : (r : ℕ) → IsStanding c → (r == c.id) ≡ false → has lead.members r ≡ true → settled (report c r c.role) ≡ done c Reported (message c 0 (Fail r) ∷ [])
  report_accepted r stands own member = led_by_role (report c r) ∙ ap settled (report_other r own member) ∙ settled_done c Reported _ stands

  -- ---- removals

  removed_itself : (r : ℕ) → (r == c.id) ≡ true → take_removed c r (Primary lead) ≡ Err Mismatch
  unfolding unless
  removed_itself r own = rw own refl

  removed_before : (r : ℕ) → (r == c.id) ≡ false → has lead.out r ≡ true → take_removed c r (Primary lead) ≡ done c Repeated []
  unfolding unless
  removed_before r own out = rw (own, out) refl

  removed_now : (r : ℕ) → (r == c.id) ≡ false → has lead.out r ≡ false → settled (take_removed c r (Primary lead)) ≡ Ok (turned_step c (record lead { members = without lead.members r; out = with lead.out r }) [])
  unfolding unless
  removed_now r own out = rw (own, out) refl

  pub removed_refused : (r : ℕ) → (r == c.id) ≡ true → settled (take_removed c r c.role) ≡ Err Mismatch
  removed_refused r own = led_by_role (take_removed c r) ∙ ap settled (removed_itself r own)

  pub removed_again : (r : ℕ) → IsStanding c → (r == c.id) ≡ false → has lead.out r ≡ true → settled (take_removed c r c.role) ≡ done c Repeated []
  removed_again r stands own out = led_by_role (take_removed c r) ∙ ap settled (removed_before r own out) ∙ settled_done c Repeated [] stands

  pub removed_taken : (r : ℕ) → (r == c.id) ≡ false → has lead.out r ≡ false → settled (take_removed c r c.role) ≡ Ok (turned_step c (record lead { members = without lead.members r; out = with lead.out r }) [])
  removed_taken r own out = led_by_role (take_removed c r) ∙ removed_now r own out

  -- ---- copies that join

  tracked_out : (r : ℕ) → has lead.out r ≡ true → take_track c r (Primary lead) ≡ Err Mismatch
  unfolding unless
  tracked_out r out = rw out refl

  tracked_before : (r : ℕ) → has lead.out r ≡ false → has lead.members r ≡ true → take_track c r (Primary lead) ≡ done c Repeated (message c r (Recover (operations c)) ∷ [])
  unfolding unless
  tracked_before r out member = rw (out, member) refl

  tracked_now : (r : ℕ) → has lead.out r ≡ false → has lead.members r ≡ false → settled (take_track c r (Primary lead)) ≡ Ok (turned_step c (record lead { members = with lead.members r }) (message c r (Recover (operations c)) ∷ []))
  unfolding unless
  tracked_now r out member = rw (out, member) refl

  pub tracked_refused : (r : ℕ) → has lead.out r ≡ true → settled (take_track c r c.role) ≡ Err Mismatch
  tracked_refused r out = led_by_role (take_track c r) ∙ ap settled (tracked_out r out)

  pub tracked_again : (r : ℕ) → IsStanding c → has lead.out r ≡ false → has lead.members r ≡ true → settled (take_track c r c.role) ≡ done c Repeated (message c r (Recover (operations c)) ∷ [])
  tracked_again r stands out member = led_by_role (take_track c r) ∙ ap settled (tracked_before r out member) ∙ settled_done c Repeated _ stands

  pub tracked_taken : (r : ℕ) → has lead.out r ≡ false → has lead.members r ≡ false → settled (take_track c r c.role) ≡ Ok (turned_step c (record lead { members = with lead.members r }) (message c r (Recover (operations c)) ∷ []))
  tracked_taken r out member = led_by_role (take_track c r) ∙ tracked_now r out member

  -- ---- acknowledgements

  abbrev marks : (r seq below : ℕ) → List ℕ
  marks r seq below = marked (acks_of lead.acks r) seq below

  pub ack_refused : (r seq below : ℕ) (e : CopyFault) → first_fault (ack_faults lead (next_seq (operations c)) r seq below) ≡ Err e → settled (take_ack c r seq below c.role) ≡ Err e
  ack_refused r seq below e h = led_by_role (take_ack c r seq below) ∙ settled_refused _ _ e h

  pub ack_again : (r seq below : ℕ) (u : ⊤) → IsStanding c → first_fault (ack_faults lead (next_seq (operations c)) r seq below) ≡ Ok u → pointwise nat_eq (acks_of lead.acks r) (marks r seq below) ≡ true →
      settled (take_ack c r seq below c.role) ≡ done c Repeated []
  ack_again r seq below u stands none same =
      led_by_role (take_ack c r seq below) ∙ settled_passed _ _ u none ∙ ap (λ (b : Bool). settled (take_marked c lead r (marks r seq below) b)) same ∙ settled_done c Repeated [] stands

  pub ack_taken : (r seq below : ℕ) (u : ⊤) → first_fault (ack_faults lead (next_seq (operations c)) r seq below) ≡ Ok u → pointwise nat_eq (acks_of lead.acks r) (marks r seq below) ≡ false →
      settled (take_ack c r seq below c.role) ≡ Ok (turned_step c (record lead { acks = put nat_cmp r (marks r seq below) lead.acks }) [])
  ack_taken r seq below u none other =
      led_by_role (take_ack c r seq below) ∙ settled_passed _ _ u none ∙ ap (λ (b : Bool). settled (take_marked c lead r (marks r seq below) b)) other
