-- Sets of numbers by the id of a copy.
use Rattle.std.specs.Prelude.{ℕ, List, [], unwrap_or}
use Rattle.std.specs.Ordering.{nat_cmp}
use Rattle.std.specs.FinMap.Entries.{find}

-- sets of numbers by the id of a copy
abbrev pub Acks : Type 0
Acks = List (ℕ × List ℕ)

-- the numbers that a copy has acknowledged
abbrev pub acks_of : Acks → ℕ → List ℕ
acks_of acks r = unwrap_or (find nat_cmp r acks) []
