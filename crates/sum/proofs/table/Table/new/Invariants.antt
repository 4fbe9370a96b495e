use Rattle.std.proofs.Common.{◌≡◌, ◌<◌, ℕ, get_or, length}
use Rattle.sum.specs.Crc.{shifted_by}
use Rattle.sum.proofs.table.Table.new.Given as goal

-- there are 256 entries, and those so far are right
abbrev pub invariant-loop-byte : goal.invariant-loop-byte
invariant-loop-byte l = (length l.entries ≡ 256) × ((byte : ℕ) → byte < l.byte → get_or l.entries byte 0 ≡ shifted_by 8 byte)
