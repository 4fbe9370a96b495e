-- A step as an entry of a journal.
use Rattle.std.specs.Prelude.{◌≡◌, ℕ, List, [], ◌∷◌, ◌++◌, length, Result, Ok, Err}
use Rattle.replica.specs.declared.fault.CopyFault.{CopyFault}
use Rattle.replica.specs.declared.input.Input.{Input}
use Rattle.replica.specs.declared.output.Output.{Output}
use Rattle.replica.specs.Logged.{Logged}
use Rattle.journal.specs.declared.journal.Deed.{Deed}
use Rattle.journal.specs.Journal.{IsLegal, IsLegalAt, after, open_at}
use Rattle.node.specs.declared.fault.NodeFault.{NodeFault}
use Rattle.node.specs.declared.fault.NodeFault.TheVariants.{Copy as Refused}
use Rattle.node.specs.Entry.{Receipt}
use Rattle.node.specs.declared.telling.Told.{Told}
use Rattle.node.specs.declared.telling.Entered.{Entered}
use Rattle.node.specs.Held.{JournalData}
use Rattle.node.specs.Replay.{IsStep}

-- the receipt of an entry, up to which the journal has these
abbrev pub receipt : ℕ → ℕ → Deed → List Deed → Receipt
receipt node place d deeds = record { node = node; place = place; deed = d; deeds = deeds }

-- what the caller gets: the entry, or the copy's refusal
abbrev pub given_of : Deed → Result Output CopyFault → Result Deed NodeFault
given_of d (Ok output) = Ok d
given_of d (Err e) = Err (Refused e)

-- an entry, as the journal, the pass and the caller get it
pub record IsTold (number : ℕ) (asked : Input) (answer : Result Output CopyFault) (t : Told) : Type 0 where
  pub own : t.own ≡ record { pass = number; input = asked; answer = answer }
  pub kept : t.kept ≡ t.own
  pub given : t.given ≡ given_of t.own answer

-- they are those of a step
pub record IsTelling (old new : Logged) (number : ℕ) (asked : Input) (t : Told) : Type 0 where
  pub step : IsStep old new asked t.own.answer
  pub told : IsTold number asked t.own.answer t

-- the step's entry is the last of the journal, is legal there, and is what the pass and the caller get
pub record IsEntered (old new : JournalData) (number : ℕ) (asked : Input) (e : Entered) : Type 0 where
  pub journal : new ≡ record old { deeds = old.deeds ++ e.kept ∷ [] }
  pub place : e.place ≡ length old.deeds
  pub pass : e.kept.pass ≡ number
  pub input : e.kept.input ≡ asked
  pub given : e.given ≡ given_of e.kept e.kept.answer
  pub legal : IsLegalAt (after (open_at old.opening) 0 old.deeds) e.kept
  pub whole : IsLegal (open_at new.opening) 0 new.deeds

-- what the caller gets: the receipt of the entry too, or the refusal
abbrev pub IsGivenAs : Result Deed NodeFault → Receipt → Result Receipt NodeFault → Type 0
IsGivenAs (Ok d) kept (Ok r) = r ≡ kept
IsGivenAs (Ok d) kept (Err f) = ⊥
IsGivenAs (Err e) kept (Ok r) = ⊥
IsGivenAs (Err e) kept (Err f) = f ≡ e
