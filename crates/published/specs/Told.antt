-- What a searcher knows of its cell.
use Rattle.std.specs.Prelude.{◌≡◌, ◌⊎◌, ℕ, Bool, true, List, [], ◌∷◌, Option, Some, None}
use Rattle.published.specs.declared.listing.Published.{Published}
use Rattle.published.specs.Listings.{ComesAfter}

abbrev pub listed : Option Published → List Published
listed None = []
listed (Some p) = p ∷ []

-- what was published by the cell with this name, if it has one
abbrev pub IsOf : Bool → ℕ × ℕ × ℕ → Published → Type 0
IsOf named cell p = named ≡ true → p.listing.cell ≡ cell

-- something of that cell is known
abbrev pub IsAt : Bool → ℕ × ℕ × ℕ → List Published → Type 0
IsAt named cell [] = ⊥
IsAt named cell (p ∷ known) = IsOf named cell p

-- only the notes of a cell with a name are learned
abbrev pub IsTold : Bool → ℕ × ℕ × ℕ → Option Published → Type 0
IsTold named cell None = Unit {0}
IsTold named cell (Some p) = (named ≡ true) × (p.listing.cell ≡ cell)

-- what was taken is of the same cell
abbrev pub IsOne : Published → Option Published → Type 0
IsOne taken None = Unit {0}
IsOne taken (Some p) = taken.listing.cell ≡ p.listing.cell

-- one of two, which doesn't come before the other
pub record IsLatest (a b now : Published) : Type 0 where
  pub first : ComesAfter now a
  pub second : ComesAfter now b
  pub one : (now ≡ a) ⊎ (now ≡ b)
