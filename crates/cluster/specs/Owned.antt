-- The pass of a copy's worker.
use Rattle.std.specs.Prelude.{◌≡◌, ℕ, ◌+◌, true, List, [], ◌∷◌}
use Rattle.journal.specs.declared.journal.Deed.{Deed}
use Rattle.node.specs.Entry.{Receipt}
use Rattle.node.specs.Held.{JournalData}
use Rattle.node.specs.Passes.{PassData}

-- there is one receipt of each of these entries, in order, the first of which stands at this place; and each bears the number
abbrev pub AreReceiptsOf : ℕ → ℕ → List Deed → List Receipt → Type 0
AreReceiptsOf number place [] [] = Unit {0}
AreReceiptsOf number place [] (r ∷ rs) = ⊥
AreReceiptsOf number place (d ∷ ds) [] = ⊥
AreReceiptsOf number place (d ∷ ds) (r ∷ rs) = (r.place ≡ place) × (r.deed ≡ d) × (d.pass ≡ number) × AreReceiptsOf number (1 + place) ds rs

-- the pass bears the number of the copy, and has a receipt of each entry of the journal, where that is kept
pub record IsOwnPass (h : JournalData) (p : PassData) : Type 0 where
  pub number : p.number ≡ h.opening.id
  pub all : h.kept ≡ true → AreReceiptsOf p.number 0 h.deeds p.receipts
