use Rattle.std.proofs.Common.{◌≡◌, ◌++◌, ◌∷◌, length, take}
use Rattle.std.specs.Int.{w32, to_le_bytes}
use Rattle.std.specs.List.{flat_map}
use Rattle.op.specs.Format.{kept_fields}
use Rattle.op.proofs.writing.put_group.Given as goal

abbrev pub invariant-loop-found : goal.invariant-loop-found
invariant-loop-found l = l.out.items ≡ l.fn.out.items ++ ((4 ∷ to_le_bytes w32 (length l.group)) ++ flat_map kept_fields (take l.found-index l.group))
