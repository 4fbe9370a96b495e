-- What a caller has seen.
use Rattle.std.specs.Prelude.{ℕ, ◌≤◌, List, [], ◌∷◌}
use Rattle.node.specs.Entry.{Receipt}

pub record PassData : Type 0 where
  pub number : ℕ
  pub receipts : List Receipt

-- each receipt's place is at most this
abbrev pub AreUpTo : ℕ → List Receipt → Type 0
AreUpTo most [] = Unit {0}
AreUpTo most (r ∷ rs) = (r.place ≤ most) × AreUpTo most rs
