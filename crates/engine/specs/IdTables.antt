-- The numbers at ids, in many tables: an id stands in the one at its place.
-- For proofs alone: no public contract rests on it.
use Rattle.std.specs.Prelude.{◌≡◌, ◌+◌, ◌==◌, ℕ, zero, suc, Bool, true, false, List, [], ◌∷◌, length, Option, None, Some, option_map, slice_get}
use Rattle.std.specs.HashMap.{HashMap, spare}
use Rattle.doc.specs.Id.{Id}
use Rattle.op.specs.declared.operation.Op.{Op}
use Rattle.op.specs.Operations.{last_on}
use Rattle.engine.specs.declared.ids.id_key.IdKey.{IdKey}
use Rattle.engine.specs.IdFilter.{place_in}
use Rattle.engine.specs.OperationIndex.{number_at}

-- the number at an id in a table, if there is one
abbrev pub number_in : {S : Type 0} → Option (HashMap IdKey ℕ S) → Id → Option ℕ
number_in None id = None
number_in (Some table) id = number_at table id

-- the number at an id
abbrev pub number_among : {S : Type 0} → List (HashMap IdKey ℕ S) → Id → Option ℕ
number_among tables id = number_in (slice_get tables (place_in (length tables) id)) id

-- at each id the number of the last of these operations on it
abbrev pub HaveLast : {S : Type 0} → List Op → List (HashMap IdKey ℕ S) → Type 0
HaveLast os tables = (id : Id) → number_among tables id ≡ option_map (λ o. o.seq) (last_on os id)

abbrev pub one_if : Bool → ℕ
one_if true = 1
one_if false = 0

-- how many of these go into one of so many tables
abbrev pub count_at : ℕ → ℕ → List (Id × ℕ) → ℕ
count_at n p [] = 0
count_at n p (q ∷ qs) = one_if (place_in n q.0 == p) + count_at n p qs

-- how many more the table at a place takes before it grows
abbrev pub spare_at : {S : Type 0} → List (HashMap IdKey ℕ S) → ℕ → ℕ
spare_at [] p = 0
spare_at (t ∷ ts) zero = spare t
spare_at (t ∷ ts) (suc p) = spare_at ts p
