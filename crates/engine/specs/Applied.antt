-- What becomes of a record.
use Rattle.std.specs.Prelude.{ℕ, suc, ◌≤◌, List, [], ◌∷◌, ◌++◌, if◌then◌else◌, is_some}
use Rattle.op.specs.declared.operation.Op.{Op}
use Rattle.op.specs.declared.record.Record.{Record}
use Rattle.op.specs.declared.record.Record.TheVariants.{Op as Kept, Resync, Recover}
use Rattle.op.specs.Operations.{op_at, is_stale}
use Rattle.op.specs.Records.{IsRecord}
use Rattle.engine.specs.declared.operations.history.Applied.{Applied}
use Rattle.engine.specs.declared.operations.history.Applied.TheVariants.{Taken, Stale, Repeated}

-- an operation is repeated where its number is there, and stale where a greater one on its id is
abbrev pub outcome : List Op → Op → Applied
outcome os o =
    if is_some (op_at os o.seq) then Repeated
    else if is_stale os o then Stale
    else Taken

-- what becomes of a record where these operations are there
abbrev pub applied_of : List Op → Record → Applied
applied_of os (Kept g o) = outcome os o
applied_of os (Resync term g tail) = Taken
applied_of os (Recover term all) = Taken

-- the records after it: a repeated one is not kept
abbrev pub records_after : List Record → Record → Applied → List Record
records_after rs r Repeated = rs
records_after rs r Taken = rs ++ r ∷ []
records_after rs r Stale = rs ++ r ∷ []

-- all are operations that keep the rules, and their numbers rise, none of them below n
abbrev pub RiseFrom : ℕ → List Record → Type 0
RiseFrom n [] = Unit {0}
RiseFrom n (Kept g o ∷ rs) = IsRecord (Kept g o) × (n ≤ o.seq) × RiseFrom (suc o.seq) rs
RiseFrom n (Resync term g tail ∷ rs) = ⊥
RiseFrom n (Recover term all ∷ rs) = ⊥
