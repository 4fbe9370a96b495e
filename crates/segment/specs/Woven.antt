-- Columns of documents that other segments have, put together.
-- For proofs alone: no public contract rests on it.
use Rattle.std.specs.Prelude.{◌≡◌, ◌<◌, ℕ, ◌+◌, Bool, true, false, nat_lt, Option, Some, None, List, [], ◌∷◌, if◌then◌else◌, slice_index_or, slice_set}
use Rattle.std.specs.List.{flat_map}
use Rattle.marks.specs.Lists.{zip_with}
use Rattle.doc.specs.Document.{Values}

-- one element, or none
abbrev pub listed_if : {A : Type 0} → Option A → List A
listed_if None = []
listed_if (Some x) = x ∷ []

-- where these places go
abbrev pub moved_by : List (Option ℕ) → List ℕ → List ℕ
moved_by to ps = flat_map (λ p. listed_if (slice_index_or to p None)) ps

-- a place and what comes of the other places, put into rising places
abbrev pub put_place : ℕ → (List ℕ → List ℕ) → List ℕ → List ℕ
put_place p rest [] = p ∷ rest []
put_place p rest (q ∷ qs) = if nat_lt p q then p ∷ rest (q ∷ qs) else q ∷ put_place p rest qs

-- the places of both rising lists, rising
abbrev pub risen : List ℕ → List ℕ → List ℕ
risen [] qs = qs
risen (p ∷ ps) qs = put_place p (risen ps) qs

-- the documents that are marked, and in place of the others some without values
abbrev pub masked : List Bool → List Values → List Values
masked bs ds = zip_with (λ b d. if b then d else []) bs ds

-- from place b on: documents zs, those that came before, those that come now, and documents ds that go to the places to
pub data IsPlaced {A : Type 0} : ℕ → List A → List Bool → List Bool → List A → List (Option ℕ) → Type 0 where
  nothing : (b : ℕ) → IsPlaced b [] [] [] [] []
  dead : (b : ℕ) (zs : List A) (ts ms : List Bool) (ds all : List A) (to more : List (Option ℕ)) (d : A) → IsPlaced b zs ts ms ds to → all ≡ d ∷ ds → more ≡ None ∷ to → IsPlaced b zs ts ms all more
  other : (b : ℕ) (zs : List A) (ts ms : List Bool) (ds : List A) (to : List (Option ℕ)) (z : A) (t : Bool) (zs' : List A) (ts' ms' : List Bool) → IsPlaced (b + 1) zs ts ms ds to → zs' ≡ z ∷ zs → ts' ≡ t ∷ ts → ms' ≡ false ∷ ms → IsPlaced b zs' ts' ms' ds to
  here : (b : ℕ) (zs : List A) (ts ms : List Bool) (ds : List A) (to : List (Option ℕ)) (z : A) (zs' : List A) (ts' ms' : List Bool) (ds' : List A) (to' : List (Option ℕ)) → IsPlaced (b + 1) zs ts ms ds to → zs' ≡ z ∷ zs → ts' ≡ false ∷ ts → ms' ≡ true ∷ ms → ds' ≡ z ∷ ds → to' ≡ Some b ∷ to → IsPlaced b zs' ts' ms' ds' to'

-- a document is the one at a place before a bound that is not taken, and the place is marked
pub record IsAt (zs : List (List ℕ)) (ts : List Bool) (d : List ℕ) (bound at : ℕ) (old new : List Bool) : Type 0 where
  pub before : at < bound
  pub same : slice_index_or zs at [] ≡ d
  pub free : slice_index_or ts at false ≡ false
  pub marked : new ≡ slice_set old at true

-- a document is the one at the place that it is given, which is the next bound; without a place nothing changes
abbrev pub Stands : List (List ℕ) → List Bool → List ℕ → ℕ → Option ℕ → ℕ → List Bool → List Bool → Type 0
Stands zs ts d bound None next old new = (next ≡ bound) × (new ≡ old)
Stands zs ts d bound (Some at) next old new = (next ≡ at) × IsAt zs ts d bound at old new
