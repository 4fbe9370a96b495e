-- Operations that are kept next to their records.
-- For proofs alone: no public contract rests on it.
use Rattle.std.specs.Prelude.{◌≡◌, ◌≤◌, ◌-◌, ◌^◌, ◌++◌, ℕ, false, List, [], ◌∷◌, drop, Option, None, Some, Vec}
use Rattle.std.specs.declared.sync.Arc.{Arc}
use Rattle.std.specs.Arc.{arc_value}
use Rattle.std.specs.declared.alloc.Global.{Global}
use Rattle.op.specs.declared.operation.Op.{Op}
use Rattle.op.specs.declared.record.Record.{Record}
use Rattle.op.specs.declared.record.Record.TheVariants.{Op as Kept, Resync, Recover}
use Rattle.op.specs.Operations.{IsAscending, next_seq}
use Rattle.op.specs.Records.{after_record, operations, shown}
use Rattle.engine.specs.OperationIndex.{operations_in}
use Rattle.engine.specs.SnapshotChange.{is_op}

-- these are the operations of the records, in order, and their numbers fit 63 bits
pub record IsKept (os : List Op) (rs : List Record) : Type 0 where
  pub same : os ≡ operations rs
  pub ascending : IsAscending os
  pub small : next_seq os ≤ 2 ^ 63

-- records that were handed out, if any were
abbrev pub items_of : Option (Arc (Vec Record Global) Global) → List Record
items_of None = []
items_of (Some rs) = (arc_value rs).items

-- records, and the place from which on memory has them
pub record HistoryData : Type 0 where
  pub records : List Record
  pub begin : ℕ

-- after the first n of some records, before which these operations are there, each record that isn't an operation leaves the operations as they are
abbrev pub IsQuiet : List Op → ℕ → List Record → Type 0
IsQuiet os n [] = Unit {0}
IsQuiet os n (r ∷ rs) = (n ≡ 0 → is_op r ≡ false → after_record os r ≡ os) × IsQuiet (after_record os r) (n - 1) rs

-- a record is an operation with a number above all that are there
abbrev pub IsNext : List Op → Record → Type 0
IsNext os (Kept g o) = next_seq os ≤ o.seq
IsNext os (Resync term g tail) = ⊥
IsNext os (Recover term all) = ⊥

-- from each place on after the first n records, the operations are those that were there and those that stand in the records since
pub record HasRisen (n : ℕ) (rs : List Record) : Type 0 where
  pub since : (p : ℕ) → n ≤ p → operations rs ≡ shown rs p ++ operations_in (drop p rs)
