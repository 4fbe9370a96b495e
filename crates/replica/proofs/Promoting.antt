-- How a copy becomes the primary of a new term.
use Rattle.std.proofs.Common.{◌≡◌, ℕ, ◌≤◌, ◌^◌, Bool, true, false, List, [], ◌++◌, None, refl, sym, ap, subst, ◌∙◌, arith}
use Rattle.std.specs.Prelude.{Result, Ok, Err, ◌==◌, map}
use Rattle.doc.specs.Outcome.{Gives}
use Rattle.op.specs.declared.record.Record.{Record}
use Rattle.op.specs.Checkpoint.{checkpoint_of}
use Rattle.op.specs.Ids.{has}
use Rattle.op.specs.Operations.{IsAscending, below, next_seq}
use Rattle.op.specs.Records.{IsTerm}
use Rattle.op.specs.Rules.{is_record}
use Rattle.op.proofs.CheckpointLaws.{known-checkpoint_of}
use Rattle.op.proofs.RecordLaws.{operations-Resync}
use Rattle.op.proofs.RulesLaws.{record_is}
use Rattle.replica.specs.declared.fault.CopyFault.TheVariants.{Mismatch}
use Rattle.replica.specs.declared.fault.CopyFault.{CopyFault}
use Rattle.replica.specs.declared.output.Answer.TheVariants.{Repeated, Taken}
use Rattle.replica.specs.declared.planned.Planned.{Planned}
use Rattle.replica.specs.Copy.{Copy, operations}
use Rattle.replica.specs.Fault.{fault_of}
use Rattle.checkpoint.specs.Numbers.{least}
use Rattle.replica.specs.Planned.{IsPlanned, led_by, new_lead, promotion_gives, settled_by, spelled, stepped_by, with_record}
use Rattle.replica.specs.Standing.{IsStanding}
use Rattle.replica.specs.Step.{Step, done, promoted, resync_of, resync_messages, settled, spellable, tail_of, take_promoted, unless, counted_by}
use Rattle.replica.proofs.Settled.{settled_done}
use Rattle.replica.proofs.Settling.{led_stands, spelled_step}
use Rattle.replica.proofs.Tails.{next_seq-tail}

abbrev ok : (c : Copy) → ℕ → List ℕ → Step
ok c term set = done (promoted c term set) Taken (resync_messages c term set)

module _ (c : Copy) (term : ℕ) (set : List ℕ) where
  pub promoted_before : IsStanding c → (term == c.term) ≡ true → settled (take_promoted c term set (term == c.term)) ≡ done c Repeated []
  promoted_before stands same = ap (λ (b : Bool). settled (take_promoted c term set b)) same ∙ settled_done c Repeated [] stands

  pub promoted_broken : (term == c.term) ≡ false → is_record (resync_of c term) ≡ false → settled (take_promoted c term set (term == c.term)) ≡ Err Mismatch
  unfolding unless
  promoted_broken new broken = rw (new, broken) refl

  promoted_whole : (term == c.term) ≡ false → is_record (resync_of c term) ≡ true → take_promoted c term set (term == c.term) ≡ unless (spellable (resync_of c term)) (ok c term set)
  unfolding unless
  promoted_whole new whole = rw (new, whole) refl

  pub promoted_spelled : (p : Planned) (r : Result Planned CopyFault) → (term == c.term) ≡ false → is_record (resync_of c term) ≡ true → p.next_record ≡ resync_of c term → stepped_by c p ≡ promotion_gives c term set
      → Gives fault_of (λ (x : Planned). x) r (spelled p) → Gives fault_of (stepped_by c) r (settled (take_promoted c term set (term == c.term)))
  promoted_spelled p r new whole kept gives sized =
      subst (λ (step : Step). Gives fault_of (stepped_by c) r step) (ap (λ (x : Record). settled (unless (spellable x) (ok c term set))) kept ∙ ap settled (sym (promoted_whole new whole)))
      (spelled_step c p r (ok c term set) sized (ap (λ s. Ok s) (sym gives)))

  -- the primary that is found
  abbrev found : Planned
  found = with_record (settled_by (led_by c (new_lead set) (next_seq (operations c)) None) Taken (resync_messages c term set)) (resync_of c term) term

  next_after : IsAscending (operations c) → next_seq (operations (promoted c term set)) ≡ next_seq (operations c)
  next_after up =
      ap next_seq (operations-Resync c.records term (checkpoint_of c.known) (tail_of c term))
      ∙ ap (λ (n : ℕ). next_seq (below n (operations c) ++ tail_of c term)) (known-checkpoint_of c.known)
      ∙ next_seq-tail c term up

  same_least : IsAscending (operations c) → least (map (counted_by c.id (next_seq (operations c)) (new_lead set)) set) ≡ least (map (counted_by c.id (next_seq (operations (promoted c term set))) (new_lead set)) set)
  same_least up = ap (λ (n : ℕ). least (map (counted_by c.id n (new_lead set)) set)) (sym (next_after up))

  pub promotion_found : IsAscending (operations c) → stepped_by c found ≡ promotion_gives c term set
  promotion_found up = rw (same_least up) refl

  pub promotion_planned : IsStanding c → IsAscending (operations c) → next_seq (operations c) ≤ 2 ^ 63 → IsTerm term → is_record (resync_of c term) ≡ true → has set c.id ≡ true → IsPlanned c found
  promotion_planned stands up small is whole member =
      let most : next_seq (operations (promoted c term set)) ≤ 2 ^ 63 = omega (arith, next_after up) in
      rw (same_least up) (record {
        next = record {
          is = record_is (resync_of c term) whole;
          fresh = tt;
          standing = led_stands (promoted c term set) (new_lead set) is.small stands.small_known is.first member most;
        };
        members = refl;
      })
