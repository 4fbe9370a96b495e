-- Which hits of a search are wanted.
use Rattle.std.specs.Prelude.{ℕ, ◌+◌, ◌≤◌}

-- the hits after the first `from`, at most `size` of them
pub record PageData : Type 0 where
  pub from : ℕ
  pub size : ℕ

-- the page ends within the first 10,000 hits
abbrev pub IsPage : PageData → Type 0
IsPage p = p.from + p.size ≤ 10000
