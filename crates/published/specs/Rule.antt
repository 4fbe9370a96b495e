-- The rule of the published list, and what its steps tell.
use Rattle.std.specs.Prelude.{◌≡◌, ℕ, List, [], ◌∷◌}
use Rattle.std.specs.Arc.{arc_value}
use mathlib.Core.Option.{some}
use lib.ListN.{get_elem?}
use Rattle.published.specs.declared.listing.Published.{Published}
use Rattle.published.specs.declared.latest.Latest.{Latest}
use Rattle.published.specs.Entry.{published_of}
use Rattle.published.specs.Listings.{ComesAfterAll}

-- what readers take
abbrev pub published : Latest → Published
published p = published_of (arc_value p.entry)

-- what is published comes after all that is known anywhere
abbrev pub Keeps : Latest → List (List Published) → Type 0
Keeps p views = (seat : ℕ) (known : List Published) → get_elem? views seat ≡ some known → ComesAfterAll (published p) known

-- what is known afterwards is that of y, which comes after all that was known
abbrev pub Sees : List Published → Latest → Latest → List Published → Type 0
Sees known x y after = ComesAfterAll (published y) known × (after ≡ published y ∷ [])
