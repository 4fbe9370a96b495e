-- The state of the master.
use Rattle.std.specs.Prelude.{◌≤◌, ◌<◌, ◌^◌, ℕ, suc, List, [], ◌∷◌}
use Rattle.std.specs.List.{AllByRecursion}
use Rattle.op.specs.Ids.{ids_up_to}
use Rattle.master.specs.declared.state.State.{State}

-- the master of a new index of n copies: copy 1 is the primary of term 1, and all are in sync
abbrev pub begun : ℕ → State
begun n = record { term = 1; primary = 1; in_sync = ids_up_to n; gone = []; next = suc n }

-- the ids rise
abbrev pub IsAscending : List ℕ → Type 0
IsAscending [] = Unit {0}
IsAscending (n ∷ ns) = AllByRecursion (λ m. n < m) ns × IsAscending ns

-- an id that was given fits in four bytes, a term is at most 9,223,372,036,854,775,807, and the set is in order
pub record IsSound (m : State) : Type 0 where
  pub some : 1 ≤ m.next
  pub ids : m.next ≤ 2 ^ 32
  pub terms : m.term < 2 ^ 63
  pub order : IsAscending m.in_sync
