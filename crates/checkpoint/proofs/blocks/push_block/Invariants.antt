use Rattle.std.proofs.Common.{◌≡◌, ◌++◌}
use Rattle.checkpoint.specs.Span.{is_set_from}
use Rattle.checkpoint.specs.Window.{marked_from}
use Rattle.checkpoint.proofs.blocks.push_block.Given as goal

-- those of the bits so far
abbrev pub invariant-loop-at : goal.invariant-loop-at
invariant-loop-at l = l.numbers.items ≡ l.initial.numbers.items ++ marked_from (is_set_from l.bits l.start) l.start l.at
