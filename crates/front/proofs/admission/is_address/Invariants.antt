use Rattle.std.proofs.Common.{◌≡◌, drop}
use Rattle.front.specs.Admission.{is_address}
use Rattle.front.proofs.admission.is_address.Given as goal

-- the bytes that are left decide
abbrev pub invariant-loop-byte : goal.invariant-loop-byte
invariant-loop-byte l = is_address (drop l.byte-index l.name) ≡ is_address l.name
