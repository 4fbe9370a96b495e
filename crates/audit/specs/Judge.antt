-- What the judging of a journal tells.
use Rattle.std.specs.Prelude.{◌≡◌, ℕ, List, [], ◌∷◌, ◌++◌, Option, Some, None}
use Rattle.journal.specs.declared.journal.Deed.{Deed}
use Rattle.audit.specs.declared.judge.Wrong.{Wrong}
use Rattle.audit.specs.declared.judge.Wrong.TheVariants.{At, NoMemory}
use Rattle.journal.specs.declared.moves.Placed.{Placed}
use Rattle.journal.specs.Journal.{Standing, IsLegal, IsLegalAt, next, moves, moves_at}
use Rattle.audit.specs.Audit.{FailsAt}

abbrev pub listed : Option Placed → List Placed
listed None = []
listed (Some p) = p ∷ []

-- the entry is legal, and this is what the copy did
pub record IsFollowed (old new : Standing) (place : ℕ) (d : Deed) (o : Option Placed) : Type 0 where
  pub legal : IsLegalAt old d
  pub standing : new ≡ next old place d
  pub move : listed o ≡ moves_at old.copy old.shut place d.input d.answer

abbrev pub IsRefused : Standing → ℕ → Deed → Wrong → Type 0
IsRefused old place d (At at) = (at ≡ place) × (IsLegalAt old d → ⊥)
IsRefused old place d NoMemory = Unit {0}

abbrev pub IsJudged : Standing → List Deed → List Placed → Type 0
IsJudged s ds ps = IsLegal s 0 ds × (ps ≡ moves s 0 ds)

abbrev pub IsMisjudged : Standing → List Deed → Wrong → Type 0
IsMisjudged s ds (At at) = FailsAt s 0 ds at
IsMisjudged s ds NoMemory = Unit {0}

-- what holds of the entries from here on, with what the copy did so far, holds of all
pub record IsSoFar (start s : Standing) (place : ℕ) (ds rest : List Deed) (ps : List Placed) : Type 0 where
  pub legal : IsLegal s place rest → IsLegal start 0 ds
  pub fails : (at : ℕ) → FailsAt s place rest at → FailsAt start 0 ds at
  pub parts : moves start 0 ds ≡ ps ++ moves s place rest
