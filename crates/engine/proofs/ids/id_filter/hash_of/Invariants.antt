use Rattle.std.proofs.Common.{◌≡◌, ◌<◌, drop}
use Rattle.engine.specs.IdFilter.{hash_from}
use Rattle.engine.proofs.ids.id_filter.hash_of.Given as goal

-- the bytes that are left make of this number what all make
abbrev pub invariant-loop-byte : goal.invariant-loop-byte
invariant-loop-byte l = record {
  small : l.hash < 4294967296;
  left : hash_from l.hash (drop l.byte-index l.bytes) ≡ hash_from 0 l.bytes;
}
