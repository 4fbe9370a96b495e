use Rattle.std.proofs.Common.{◌≡◌, ◌≤◌, ◌<◌, ◌+◌, ℕ, false}
use Rattle.checkpoint.specs.Numbers.{with_below}
use Rattle.checkpoint.specs.Window.{is_marked, numbers_of}
use Rattle.checkpoint.proofs.window.raise.Given as goal

-- the window has come to the number, and what it left is not marked any more
abbrev pub invariant-loop-number : goal.invariant-loop-number
invariant-loop-number l = record {
  numbers : numbers_of l.number l.words ≡ with_below (numbers_of l.fn.count l.initial.words) l.number;
  above : (k : ℕ) → l.number ≤ k → k < l.fn.count + 1024 → is_marked l.words k ≡ is_marked l.initial.words k;
  fresh : (k : ℕ) → l.fn.count + 1024 ≤ k → k < l.number + 1024 → is_marked l.words k ≡ false;
}
