-- What stays in a copy along the entries of its journal.
use Rattle.std.proofs.Common.{◌≡◌, ◌+◌, ℕ, zero, suc, Bool, true, false, List, [], ◌∷◌, ◌++◌, Option, Some, None, Result, Ok, Err, IfOk, refl, sym, ap, subst, ◌∙◌}
use Rattle.std.specs.Prelude.{IfSome}
use Rattle.op.specs.declared.operation.Op.{Op}
use Rattle.op.specs.declared.record.Record.{Record}
use Rattle.op.specs.Operations.{IsAscending}
use Rattle.op.specs.Records.{operations}
use Rattle.replica.specs.declared.fault.CopyFault.{CopyFault}
use Rattle.replica.specs.declared.input.Input.{Input}
use Rattle.replica.specs.declared.output.Output.{Output}
use Rattle.replica.specs.Copy.{Copy}
use Rattle.replica.specs.Fault.{is_log}
use Rattle.replica.specs.Step.{Step, copy_step}
use Rattle.journal.specs.declared.journal.Deed.{Deed}
use Rattle.journal.specs.Journal.{Shut, Standing, IsLegal, after, answered, found, is_kept, left_by, next, refused_at}
use Rattle.promises.specs.Copies.{AreWithoutReset, is_reset}
use Rattle.promises.proofs.Copying.{goes_on, rises}
use Rattle.promises.proofs.Steps.{Has, Later}

-- what holds of the records that a copy has, and of those that it may be found with where its log failed
pub record HoldsAt (P : List Record → Type 0) (s : Standing) : Type 0 where
  pub copy : P s.copy.records
  pub other : IfSome s.shut (λ f. P f.other)

abbrev pub RisesAt : Standing → Type 0
RisesAt s = HoldsAt (λ rs. IsAscending (operations rs)) s

abbrev pub HasAt : Op → Standing → Type 0
HasAt o s = HoldsAt (Has o) s

module _ (P : List Record → Type 0) where
  found_holds : (c : Copy) (f : Shut) (b : Bool) → P c.records → P f.other → P (found c f b)
  found_holds c f true has other = other
  found_holds c f false has other = has

  refused_holds : (c : Copy) (place : ℕ) (input : Input) (b : Bool) → P c.records → P (left_by c (copy_step c input)).records → HoldsAt P (refused_at c place input b)
  refused_holds c place input true has left = record { copy = has; other = left }
  refused_holds c place input false has left = record { copy = has; other = tt }

  -- what a step keeps, an entry keeps
  answered_holds : (c : Copy) (shut : Option Shut) (place : ℕ) (input : Input) (answer : Result Output CopyFault) → P c.records → IfSome shut (λ f. P f.other) → P (left_by c (copy_step c input)).records → HoldsAt P (answered c shut place input answer)
  answered_holds c None place input (Ok output) has other left = record { copy = left; other = tt }
  answered_holds c None place input (Err e) has other left = refused_holds c place input (is_log e) has left
  answered_holds c (Some f) place input (Ok output) has other left = record { copy = found_holds c f (is_kept c f output) has other; other = tt }
  answered_holds c (Some f) place input (Err e) has other left = record { copy = has; other = other }

left_rises : (c : Copy) (up : IsAscending (operations c.records)) (r : Step) → IfOk r (λ s. IsAscending (operations s.copy.records)) → IsAscending (operations (left_by c r).records)
left_rises c up (Ok s) h = h
left_rises c up (Err e) h = up

rises_next : (s : Standing) (place : ℕ) (d : Deed) → RisesAt s → RisesAt (next s place d)
rises_next s place d up = answered_holds (λ rs. IsAscending (operations rs)) s.copy s.shut place d.input d.answer up.copy up.other (left_rises s.copy up.copy (copy_step s.copy d.input) (rises s.copy up.copy d.input))

pub rises_after : (s : Standing) (place : ℕ) (ds : List Deed) → RisesAt s → RisesAt (after s place ds)
rises_after s place [] up = up
rises_after s place (d ∷ ds) up = rises_after (next s place d) (suc place) ds (rises_next s place d up)

left_has : (o : Op) (c : Copy) (r : Step) → IfOk r (λ s. Later s.copy c) → Has o c.records → Has o (left_by c r).records
left_has o c (Ok s) later has = (later.keeps o false (has, λ e. absurd (let never : false ≡ true = e in cc))).0
left_has o c (Err e) later has = has

has_next : (o : Op) (s : Standing) (place : ℕ) (d : Deed) → RisesAt s → HasAt o s → is_reset d.input ≡ false → HasAt o (next s place d)
has_next o s place d up has apart = answered_holds (Has o) s.copy s.shut place d.input d.answer has.copy has.other (left_has o s.copy (copy_step s.copy d.input) (goes_on s.copy up.copy d.input apart) has.copy)

pub has_after : (o : Op) (s : Standing) (place : ℕ) (ds : List Deed) → RisesAt s → HasAt o s → AreWithoutReset ds → HasAt o (after s place ds)
has_after o s place [] up has own = has
has_after o s place (d ∷ ds) up has own = has_after o (next s place d) (suc place) ds (rises_next s place d up) (has_next o s place d up has own.0) own.1

-- a journal that goes on from another
pub record GoesOnAt (s : Standing) (place : ℕ) (ds es : List Deed) : Type 0 where
  pub at : ℕ
  pub first : IsLegal s place ds
  pub rest : IsLegal (after s place ds) at es
  pub end : after s place (ds ++ es) ≡ after (after s place ds) at es

pub goes_on_at : (s : Standing) (place : ℕ) (ds es : List Deed) → IsLegal s place (ds ++ es) → GoesOnAt s place ds es
goes_on_at s place [] es legal = record { at = place; first = tt; rest = legal; end = refl }
goes_on_at s place (d ∷ ds) es legal =
    let more = goes_on_at (next s place d) (suc place) ds es legal.1 in
    record { at = more.at; first = (legal.0, more.first); rest = more.rest; end = more.end }
