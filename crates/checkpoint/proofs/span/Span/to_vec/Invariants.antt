use Rattle.std.proofs.Common.{◌≡◌, ◌*◌}
use Rattle.checkpoint.specs.Span.{is_spanned}
use Rattle.checkpoint.specs.Window.{marked_from}
use Rattle.checkpoint.proofs.span.Span.to_vec.Given as goal

-- those of the blocks so far
abbrev pub invariant-loop-step : goal.invariant-loop-step
invariant-loop-step l = l.numbers.items ≡ marked_from (is_spanned l.self-inside.words) (l.self-inside.first * 64) (l.step * 64)
