use Rattle.std.proofs.Common.{◌≡◌, ◌<◌, ◌≤◌, ◌+◌, ◌*◌, ℕ, false}
use Rattle.checkpoint.specs.Span.{is_spanned}
use Rattle.checkpoint.proofs.blocks.ends_before.Given as goal

-- the blocks so far have none from there on
abbrev pub invariant-loop-step : goal.invariant-loop-step
invariant-loop-step l = (k : ℕ) → l.first * 64 ≤ k → k < (l.first + l.step) * 64 → l.number ≤ k → is_spanned l.words k ≡ false
