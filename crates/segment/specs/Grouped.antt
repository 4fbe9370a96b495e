-- Keys with a place each, listed as they come.
-- For proofs alone: no public contract rests on it.
use Rattle.std.specs.Prelude.{ℕ, Bool, List, [], ◌∷◌, ◌++◌, if◌then◌else◌, map}
use Rattle.segment.specs.Places.{added, as_list}
use Rattle.segment.specs.declared.places.Places.{Places}

-- the places with those of the postings whose keys pass
abbrev pub places_posted_on : {K : Type 0} → (K → Bool) → List ℕ → List (K × ℕ) → List ℕ
places_posted_on p ps [] = ps
places_posted_on p ps (e ∷ es) = places_posted_on p (if p e.0 then added ps e.1 else ps) es

-- those of the postings alone
abbrev pub places_posted : {K : Type 0} → (K → Bool) → List (K × ℕ) → List ℕ
places_posted p es = places_posted_on p [] es

-- the pairs with their places as lists
abbrev pub with_lists : {K : Type 0} → List (K × Places) → List (K × List ℕ)
with_lists es = map (λ e. (e.0, as_list e.1)) es

-- a key with its places, then the keys of the postings with theirs, where equal neighbours are one
abbrev pub runs_from : {K : Type 0} → (K → K → Bool) → K → List ℕ → List (K × ℕ) → List (K × List ℕ)
runs_from eq k ps [] = (k, ps) ∷ []
runs_from eq k ps (e ∷ es) = if eq e.0 k then runs_from eq k (added ps e.1) es else (k, ps) ∷ runs_from eq e.0 (e.1 ∷ []) es

-- the keys of the postings, where equal neighbours are one
abbrev pub runs : {K : Type 0} → (K → K → Bool) → List (K × ℕ) → List (K × List ℕ)
runs eq [] = []
runs eq (e ∷ es) = runs_from eq e.0 (e.1 ∷ []) es

-- the places of the keys that pass, one after another
abbrev pub places_of_runs : {K : Type 0} → (K → Bool) → List (K × List ℕ) → List ℕ
places_of_runs p [] = []
places_of_runs p (r ∷ rs) = (if p r.0 then r.1 else []) ++ places_of_runs p rs
