use Rattle.std.proofs.Common.{◌≡◌, drop, map, string_bytes}
use Rattle.front.specs.Admission.{lists}
use Rattle.front.proofs.admission.lists.Given as goal

-- the texts that are left decide
abbrev pub invariant-loop-text : goal.invariant-loop-text
invariant-loop-text l = lists (map string_bytes (drop l.text-index l.texts)) l.wanted ≡ lists (map string_bytes l.texts) l.wanted
