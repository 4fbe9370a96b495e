-- Operations as memory has them.
-- For proofs alone: no public contract rests on it.
use Rattle.std.specs.Prelude.{◌≡◌, Bool, true, false, List, [], ◌∷◌, map, if◌then◌else◌}
use Rattle.std.specs.List.{AllByRecursion}
use Rattle.doc.specs.Id.{Id}
use Rattle.op.specs.declared.operation.Op.{Op}
use Rattle.op.specs.Operations.{is_newer, is_on, last_on}

-- an operation, and whether memory let it go, but for its number
pub record SlotData : Type 0 where
  pub op : Op
  pub gone : Bool

-- the operations that slots have
abbrev pub ops : List SlotData → List Op
ops ss = map (λ s. s.op) ss

-- a newer operation is on its id
abbrev pub IsReplaced : List Op → Op → Type 0
IsReplaced os o = (id : Id) → is_on id o ≡ true → is_newer (last_on os id) o.seq ≡ true

-- memory dropped only the texts of operations that newer ones replaced
abbrev pub AreHeld : List Op → List SlotData → Type 0
AreHeld os ss = AllByRecursion (λ s. s.gone ≡ true → IsReplaced os s.op) ss

-- memory dropped no text
abbrev pub AreWhole : List SlotData → Type 0
AreWhole ss = AllByRecursion (λ s. s.gone ≡ false) ss

-- the operations whose text memory has
abbrev pub whole_ops : List SlotData → List Op
whole_ops [] = []
whole_ops (s ∷ ss) = if s.gone then whole_ops ss else s.op ∷ whole_ops ss
