use Rattle.std.proofs.Common.{◌≡◌, ◌<◌, ◌≤◌, ◌+◌, ◌*◌, ◌&&◌, not, ℕ}
use Rattle.op.specs.Ids.{has}
use Rattle.checkpoint.specs.Span.{is_spanned}
use Rattle.checkpoint.proofs.span.Span.subtract.Given as goal

-- the blocks before are done, the others stand
abbrev pub invariant-loop-step : goal.invariant-loop-step
invariant-loop-step l = record {
  done : (k : ℕ) → l.self-inside.first * 64 ≤ k → k < (l.self-inside.first + l.step) * 64 → is_spanned l.words k ≡ (is_spanned l.self-inside.words k && not (has l.others k));
  left : (k : ℕ) → (l.self-inside.first + l.step) * 64 ≤ k → k < l.self-inside.first * 64 + 1088 → is_spanned l.words k ≡ is_spanned l.self-inside.words k;
}
