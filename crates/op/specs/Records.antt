-- Records, and the operations that a list of them leaves.
use Rattle.std.specs.Prelude.{◌≡◌, ℕ, negsuc, suc, ◌<◌, ◌≤◌, ◌^◌, ◌≤ℤ◌, List, [], ◌∷◌, ◌++◌, length, fold, take}
use Rattle.std.specs.List.{AllByRecursion}
use Rattle.op.specs.declared.operation.Op.{Op}
use Rattle.op.specs.declared.operation.Body.{Body}
use Rattle.op.specs.declared.operation.Body.TheVariants.{Index, Delete, NoOp}
use Rattle.op.specs.declared.record.Record.{Record}
use Rattle.op.specs.declared.record.Record.TheVariants.{Op as Kept, Resync, Recover}
use Rattle.op.specs.Checkpoint.{known}
use Rattle.op.specs.Operations.{add, below}

-- some records begin with others
abbrev pub StartsWith : List Record → List Record → Type 0
StartsWith rs start = (rest : List Record) × (rs ≡ start ++ rest)

-- versions begin at 1; an operation that does nothing has none
abbrev pub IsVersion : Body → ℕ → Type 0
IsVersion (Index id source) version = 0 < version
IsVersion (Delete id) version = 0 < version
IsVersion NoOp version = version ≡ 0

-- the numbers of an operation: terms begin at 1, and none passes 9,223,372,036,854,775,807
pub record IsOperation (o : Op) : Type 0 where
  pub small_seq : o.seq < 2 ^ 63
  pub first_term : 0 < o.term
  pub small_term : o.term < 2 ^ 63
  pub first_version : IsVersion o.body o.version
  pub small_version : o.version < 2 ^ 63

-- a write does something
abbrev pub IsWrite : Body → Type 0
IsWrite (Index id source) = Unit {0}
IsWrite (Delete id) = Unit {0}
IsWrite NoOp = ⊥

-- the numbers run from n without a gap
abbrev pub RunsFrom : ℕ → List Op → Type 0
RunsFrom n [] = Unit {0}
RunsFrom n (o ∷ os) = (o.seq ≡ n) × RunsFrom (suc n) os

-- a term is at least 1
pub record IsTerm (term : ℕ) : Type 0 where
  pub first : 0 < term
  pub small : term < 2 ^ 63

-- an operation of this term or an older one
abbrev pub IsUpTo : ℕ → Op → Type 0
IsUpTo term o = IsOperation o × (o.term ≤ term)

-- operations from number n up that a primary of this term has
pub record IsHistory (term n : ℕ) (os : List Op) : Type 0 where
  pub runs : RunsFrom n os
  pub each : AllByRecursion (IsUpTo term) os

-- what holds of a record that is kept: an operation is a write; a resync begins after its checkpoint, a recovery begins at number 0;
-- a checkpoint is at least -1
abbrev pub IsRecord : Record → Type 0
IsRecord (Kept g o) = (negsuc 0 ≤ℤ g) × IsOperation o × IsWrite o.body
IsRecord (Resync term g tail) = (negsuc 0 ≤ℤ g) × IsTerm term × IsHistory term (known g) tail
IsRecord (Recover term all) = IsTerm term × IsHistory term 0 all

-- a record of a group: an operation
abbrev pub IsOfGroup : Record → Type 0
IsOfGroup (Kept g o) = IsRecord (Kept g o)
IsOfGroup (Resync term g tail) = ⊥
IsOfGroup (Recover term all) = ⊥

-- records that are kept together or not at all: 2 to 1,024 operations
pub record IsGroup (rs : List Record) : Type 0 where
  pub several : 2 ≤ length rs
  pub few : length rs ≤ 1024
  pub each : AllByRecursion IsOfGroup rs

-- the records that one frame has: one of any kind, or a group
abbrev pub AreOfOneFrame : List Record → Type 0
AreOfOneFrame [] = ⊥
AreOfOneFrame (r ∷ []) = IsRecord r
AreOfOneFrame (r ∷ s ∷ rs) = IsGroup (r ∷ s ∷ rs)

-- the operations after one more record: an operation is added where its number is free, a resync keeps what its checkpoint counts
-- and adds its tail, a recovery replaces all
abbrev pub after_record : List Op → Record → List Op
after_record os (Kept g o) = add os o
after_record os (Resync term g tail) = below (known g) os ++ tail
after_record os (Recover term all) = all

-- the operations of records
abbrev pub operations : List Record → List Op
operations rs = fold after_record [] rs

-- the operations of the records up to a refresh point
abbrev pub shown : List Record → ℕ → List Op
shown rs point = operations (take point rs)
