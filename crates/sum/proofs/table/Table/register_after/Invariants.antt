use Rattle.std.proofs.Common.{◌≡◌, drop}
use Rattle.sum.specs.Crc.{register_after}
use Rattle.sum.proofs.table.Table.register_after.Given as goal

-- the bytes that are left bring the same register
abbrev pub invariant-loop-byte : goal.invariant-loop-byte
invariant-loop-byte l = register_after l.after (drop l.byte-index l.bytes) ≡ register_after l.register l.bytes
