use Rattle.std.proofs.Common.{◌≡◌, drop, map, string_bytes}
use Rattle.std.specs.List.{list_any}
use Rattle.wire.specs.Framing.{is_named}
use Rattle.front.proofs.admission.is_own.Given as goal

-- the names that are left decide
abbrev pub invariant-loop-own : goal.invariant-loop-own
invariant-loop-own l = list_any (λ n. is_named n l.name) (map string_bytes (drop l.own-index l.names)) ≡ list_any (λ n. is_named n l.name) (map string_bytes l.names)
