-- What the judging of the master's journal tells.
use Rattle.std.specs.Prelude.{◌≡◌, ℕ, List, ◌++◌, Option}
use Rattle.journal.specs.declared.journal.Ruling.{Ruling}
use Rattle.audit.specs.declared.judge.Wrong.{Wrong}
use Rattle.audit.specs.declared.judge.Wrong.TheVariants.{At, NoMemory}
use Rattle.journal.specs.declared.moves.Placed.{Placed}
use Rattle.audit.specs.Audit.{RulingFailsAt}
use Rattle.audit.specs.Judge.{listed}
use Rattle.journal.specs.Rulings.{Ruler, AreLegal, IsLegalRuling, next_ruler, rulings, rulings_at}

-- the entry is legal, and this is what the master did
pub record IsRuled (old new : Ruler) (place : ℕ) (r : Ruling) (o : Option Placed) : Type 0 where
  pub legal : IsLegalRuling old r
  pub ruler : new ≡ next_ruler old r
  pub move : listed o ≡ rulings_at old.closed place r.request r.answer

abbrev pub IsOverruled : Ruler → ℕ → Ruling → Wrong → Type 0
IsOverruled old place r (At at) = (at ≡ place) × (IsLegalRuling old r → ⊥)
IsOverruled old place r NoMemory = Unit {0}

-- all entries are legal, and these are the moves
abbrev pub AreRuled : Ruler → List Ruling → List Placed → Type 0
AreRuled s rs ps = AreLegal s rs × (ps ≡ rulings s 0 rs)

abbrev pub AreOverruled : Ruler → List Ruling → Wrong → Type 0
AreOverruled s rs (At at) = RulingFailsAt s 0 rs at
AreOverruled s rs NoMemory = Unit {0}

-- what holds of the entries from here on, with what the master did so far, holds of all
pub record AreRuledSoFar (start s : Ruler) (place : ℕ) (rs rest : List Ruling) (ps : List Placed) : Type 0 where
  pub legal : AreLegal s rest → AreLegal start rs
  pub fails : (at : ℕ) → RulingFailsAt s place rest at → RulingFailsAt start 0 rs at
  pub parts : rulings start 0 rs ≡ ps ++ rulings s place rest
