use Rattle.std.proofs.Common.{◌≡◌, drop}
use Rattle.server.specs.IndexName.{are_allowed}
use Rattle.server.proofs.index_name.are_allowed.Given as goal

-- the bytes that are left decide
abbrev pub invariant-loop-byte : goal.invariant-loop-byte
invariant-loop-byte l = are_allowed (drop l.byte-index l.name) ≡ are_allowed l.name
