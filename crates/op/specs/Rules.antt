-- The rules of records as tests.
use Rattle.std.specs.Prelude.{ℕ, ℤ, negsuc, suc, ◌^◌, Bool, true, false, ◌&&◌, ◌==◌, nat_lt, nat_le, int_le, List, [], ◌∷◌, length}
use Rattle.std.specs.List.{list_all}
use Rattle.op.specs.declared.operation.Op.{Op}
use Rattle.op.specs.declared.operation.Body.{Body}
use Rattle.op.specs.declared.operation.Body.TheVariants.{Index, Delete, NoOp}
use Rattle.op.specs.declared.record.Record.{Record}
use Rattle.op.specs.declared.record.Record.TheVariants.{Op as Kept, Resync, Recover}
use Rattle.op.specs.Checkpoint.{known}

-- at most 9,223,372,036,854,775,807
abbrev pub is_small : ℕ → Bool
is_small n = nat_lt n (2 ^ 63)

abbrev pub is_term : ℕ → Bool
is_term n = nat_lt 0 n && is_small n

-- a checkpoint is at least -1
abbrev pub is_checkpoint : ℤ → Bool
is_checkpoint g = int_le (negsuc 0) g

-- versions begin at 1; an operation that does nothing has none
abbrev pub is_version : Body → ℕ → Bool
is_version (Index id source) version = nat_lt 0 version
is_version (Delete id) version = nat_lt 0 version
is_version NoOp version = version == 0

abbrev pub is_write : Body → Bool
is_write (Index id source) = true
is_write (Delete id) = true
is_write NoOp = false

abbrev pub is_operation : Op → Bool
is_operation o = is_small o.seq && (is_term o.term && (is_version o.body o.version && is_small o.version))

-- an operation of number n, of this term or an older one
abbrev pub is_next : ℕ → ℕ → Op → Bool
is_next term n o = (o.seq == n) && (is_operation o && nat_le o.term term)

-- operations from number n up without a gap
abbrev pub is_history : ℕ → ℕ → List Op → Bool
is_history term n [] = true
is_history term n (o ∷ os) = is_next term n o && is_history term (suc n) os

-- the rules of each kind of record
abbrev pub is_op_record : ℤ → Op → Bool
is_op_record g o = is_checkpoint g && (is_operation o && is_write o.body)

abbrev pub is_resync_record : ℕ → ℤ → List Op → Bool
is_resync_record term g os = is_checkpoint g && (is_term term && is_history term (known g) os)

abbrev pub is_recover_record : ℕ → List Op → Bool
is_recover_record term os = is_term term && is_history term 0 os

abbrev pub is_record : Record → Bool
is_record (Kept g o) = is_op_record g o
is_record (Resync term g os) = is_resync_record term g os
is_record (Recover term os) = is_recover_record term os

-- a record of a group is an operation
abbrev pub is_of_group : Record → Bool
is_of_group (Kept g o) = is_op_record g o
is_of_group (Resync term g os) = false
is_of_group (Recover term os) = false

-- how many records a group has: 2 to 1,024
abbrev pub is_group_count : ℕ → Bool
is_group_count n = nat_le 2 n && nat_le n 1024

abbrev pub is_group : List Record → Bool
is_group rs = is_group_count (length rs) && list_all is_of_group rs
