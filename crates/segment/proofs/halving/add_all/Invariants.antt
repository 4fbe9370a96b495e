use Rattle.std.proofs.Common.{◌≡◌, ℕ, List, length}
use Rattle.std.specs.Option.{option_or}
use Rattle.segment.specs.Indexed.{column_at}
use Rattle.segment.proofs.halving.add_all.Given as goal

-- what is left and what is there have all columns
abbrev pub invariant-loop-name : goal.invariant-loop-name
invariant-loop-name l = (w : List ℕ) → option_or (column_at l.left w) (column_at l.columns w) ≡ option_or (column_at l.fn.others w) (column_at l.fn.columns w)

-- one column fewer is left
abbrev pub decreases-loop-name : goal.decreases-loop-name
decreases-loop-name l = length l.left.entries
