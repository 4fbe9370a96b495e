-- The last operation on each id, in byte order of the ids.
-- For proofs alone: no public contract rests on it.
use denote.Ref.{Bor}
use Rattle.std.specs.Prelude.{◌≡◌, ◌++◌, ℕ, true, List, [], ◌∷◌, Option, None}
use Rattle.std.specs.Option.{option_map}
use Rattle.std.specs.List.{AllByRecursion}
use Rattle.std.specs.List.Sorted.{IsStrictlySortedBy}
use Rattle.std.specs.Ordering.{is_eq, nat_cmp, eq_by_cmp}
use Rattle.std.specs.declared.cmp.Ordering.{Ordering}
use Rattle.std.specs.Cmp.Lexicographic.{slice_cmp}
use Rattle.std.specs.Map.{keys_of, values_of, lookup, update_all}
use Rattle.doc.specs.Id.{Id}
use Rattle.op.specs.declared.operation.Op.{Op}
use Rattle.op.specs.declared.operation.Body.{Body}
use Rattle.op.specs.declared.operation.Body.TheVariants.{Index, Delete, NoOp}
use Rattle.op.specs.Documents.{Documents}
use Rattle.op.specs.Operations.{is_on, last_on}

abbrev pub Key : Type 0
Key = Bor (List ℕ)

abbrev pub key_cmp : Key → Key → Ordering
key_cmp x y = slice_cmp nat_cmp x.now y.now

-- the operation that stands last at the key
abbrev pub last_in : List (Key × Bor Op) → Key → Option Op
last_in ps q = option_map (λ o. o.now) (update_all (eq_by_cmp key_cmp) (λ _. None) ps q)

-- each operation stands at its id
abbrev pub AreOn : List (Key × Bor Op) → Type 0
AreOn ps = AllByRecursion (λ p. is_on p.0.now p.1.now ≡ true) ps

-- the operation at an id
abbrev pub latest_at : List (Key × Bor Op) → Id → Option Op
latest_at es id = option_map (λ o. o.now) (lookup (λ k. is_eq (slice_cmp nat_cmp id k.now)) es)

-- the operations that `told` gives, in order of their ids
pub record AreLastBy (told : Id → Option Op) (os : List (Bor Op)) : Type 0 where
  pub entries : List (Key × Bor Op)
  pub are : os ≡ values_of entries
  pub ordered : IsStrictlySortedBy key_cmp (keys_of entries)
  pub on : AreOn entries
  pub last : (id : Id) → latest_at entries id ≡ told id

-- the last operation on each id
abbrev pub AreLatest : List Op → List (Bor Op) → Type 0
AreLatest os ls = AreLastBy (last_on os) ls

-- the document of an operation
abbrev pub left_of : Op → Body → Documents
left_of o (Index id source) = (id, record { seq = o.seq; term = o.term; version = o.version; source = source }) ∷ []
left_of o (Delete id) = []
left_of o NoOp = []

-- the documents of operations, one by one
abbrev pub left_all : List (Bor Op) → Documents
left_all [] = []
left_all (o ∷ os) = left_of o.now o.now.body ++ left_all os
