-- Which nodes have a journal.
use Rattle.std.specs.Prelude.{ℕ, suc, ◌≤◌, List, [], ◌∷◌, length, slice_get, Option, Some, None, Result, Ok, Err}
use Rattle.master.specs.declared.fault.MasterFault.{MasterFault}
use Rattle.master.specs.declared.state.Decision.{Decision}
use Rattle.journal.specs.declared.journal.Journal.{Journal}
use Rattle.journal.specs.declared.journal.Journal.TheVariants.{OfMaster as of_master, OfCopy as of_copy}
use Rattle.journal.specs.declared.journal.Ruling.{Ruling}

abbrev pub behind_id : ℕ → Option ℕ → ℕ
behind_id n None = n
behind_id n (Some id) = suc id

abbrev pub behind : ℕ → Result Decision MasterFault → ℕ
behind n (Ok d) = behind_id n d.given
behind n (Err e) = n

-- the number after the last id that the entries give, n where they give none
abbrev pub next_given : ℕ → List Ruling → ℕ
next_given n [] = n
next_given n (r ∷ rs) = next_given (behind n r.answer) rs

-- `count` journals, of which this is the first, are those of the master and of each copy to which that one gives an id
abbrev pub HasEach : Option Journal → ℕ → Type 0
HasEach None count = ⊥
HasEach (Some (of_master s rs)) count = next_given s.next rs ≤ count
HasEach (Some (of_copy c ds)) count = ⊥

-- each node has its journal
abbrev pub AreAll : List Journal → Type 0
AreAll js = HasEach (slice_get js 0) (length js)
