-- Receipts that are gathered from passes, against the journal of their copy.
use Rattle.std.specs.Prelude.{◌≡◌, ℕ, ◌<◌, ◌==◌, Bool, true, false, List, [], ◌∷◌, ◌++◌, length, Option, Some, None, slice_get}
use Rattle.std.specs.List.{list_any}
use Rattle.journal.specs.declared.journal.Deed.{Deed}
use Rattle.journal.specs.declared.journal.Journal.{Journal}
use Rattle.journal.specs.declared.journal.Journal.TheVariants.{OfMaster, OfCopy}
use Rattle.node.specs.Entry.{Receipt}
use Rattle.node.specs.Passes.{PassData}

-- the call at a place of a copy's journal
abbrev pub deed_at : Journal → ℕ → Option Deed
deed_at (OfMaster state rulings) place = None
deed_at (OfCopy opening deeds) place = slice_get deeds place

-- how many entries a journal has
abbrev pub size_of : Journal → ℕ
size_of (OfMaster state rulings) = length rulings
size_of (OfCopy opening deeds) = length deeds

-- the receipts of some passes, one pass after the other
abbrev pub receipts_of : List PassData → List Receipt
receipts_of [] = []
receipts_of (p ∷ ps) = p.receipts ++ receipts_of ps

-- whether a receipt is of this place
abbrev pub is_at : ℕ → Receipt → Bool
is_at place r = r.place == place

abbrev pub has_place : List Receipt → ℕ → Bool
has_place rs place = list_any (is_at place) rs

-- after others a receipt stands at its place, with its pass, input and answer, and none of them is there
pub record IsNext (j : Journal) (before : List Receipt) (r : Receipt) : Type 0 where
  pub stands : deed_at j r.place ≡ Some r.deed
  pub alone : has_place before r.place ≡ false

-- each does, after others and those before it
abbrev pub AreNext : Journal → List Receipt → List Receipt → Type 0
AreNext j before [] = Unit {0}
AreNext j before (r ∷ rs) = IsNext j before r × AreNext j (before ++ r ∷ []) rs

-- each receipt stands at its place, and no two at one
abbrev pub AreGathered : Journal → List Receipt → Type 0
AreGathered j rs = AreNext j [] rs

-- the first receipt that doesn't, by its place
pub record IsFirstStray (j : Journal) (before rs : List Receipt) (place : ℕ) : Type 0 where
  pub front : List Receipt
  pub stray : Receipt
  pub back : List Receipt
  pub are : rs ≡ front ++ stray ∷ back
  pub at : place ≡ stray.place
  pub fine : AreNext j before front
  pub fails : IsNext j (before ++ front) stray → ⊥

-- each entry of the journal has a receipt
abbrev pub IsWhole : Journal → List Receipt → Type 0
IsWhole j rs = (place : ℕ) → place < size_of j → has_place rs place ≡ true
