-- Documents before an id, and those that are not.
-- For proofs alone: no public contract rests on it.
use Rattle.std.specs.Prelude.{◌≡◌, ◌≤◌, ℕ, Bool, not, List, length, filter, map, sum_by, take}
use Rattle.std.specs.Ordering.{is_lt}
use Rattle.doc.specs.Id.{Id, id_cmp}
use Rattle.op.specs.Documents.{Document, Documents}
use Rattle.engine.specs.declared.read.paging.Pivot.{Pivot}

-- whether a document stands before an id
abbrev pub is_before : Id → Id × Document → Bool
is_before id d = is_lt (id_cmp d.0 id)

-- whether it doesn't
abbrev pub is_behind : Id → Id × Document → Bool
is_behind id d = not (is_before id d)

-- the first documents of each list that pass
abbrev pub first_of_each : ℕ → (Id × Document → Bool) → List Documents → List Documents
first_of_each n g ds = map (λ d. take n (filter g d)) ds

-- how many of all lists stand before an id
abbrev pub rank : Id → List Documents → ℕ
rank id ds = sum_by (λ d. length (filter (is_before id) d)) ds

-- an id before which no more documents stand than so many
pub record IsPivot (ds : List Documents) (from : ℕ) (p : Pivot) : Type 0 where
  pub is : p.rank ≡ rank p.id.now ds
  pub few : p.rank ≤ from
