use Rattle.std.proofs.Common.{◌≡◌, ◌++◌, length, take}
use Rattle.std.specs.Int.{w32, to_le_bytes}
use Rattle.std.specs.List.{flat_map}
use Rattle.op.specs.Format.{operation_bytes}
use Rattle.op.proofs.writing.put_operations.Given as goal

abbrev pub invariant-loop-op : goal.invariant-loop-op
invariant-loop-op l = l.out.items ≡ l.fn.out.items ++ (to_le_bytes w32 (length l.operations) ++ flat_map operation_bytes (take l.op-index l.operations))
