use Rattle.std.proofs.Common.{◌≡◌, ◌≤◌, ◌<◌, ◌+◌, ◌^◌, ℕ, false}
use Rattle.checkpoint.specs.Window.{is_marked, numbers_of}
use Rattle.checkpoint.proofs.window.settle.Given as goal

-- the same numbers, counted further, and what was passed is not marked any more
abbrev pub invariant-loop-step : goal.invariant-loop-step
invariant-loop-step l = record {
  at : l.next ≡ l.fn.count + l.step;
  numbers : numbers_of l.next l.words ≡ numbers_of l.fn.count l.initial.words;
  fresh : (k : ℕ) → l.fn.count + 1024 ≤ k → k < l.next + 1024 → is_marked l.words k ≡ false;
  signed : (k : ℕ) → 2 ^ 63 ≤ k → k < l.next + 1024 → is_marked l.words k ≡ false;
  small : l.next ≤ 2 ^ 63;
}
