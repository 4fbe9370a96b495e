use Rattle.std.proofs.Common.{◌≡◌, ◌<◌, ℕ, length}
use Rattle.std.specs.Prelude.{slice_get}
use Rattle.audit.specs.Merge.{count_of, part_of}
use Rattle.audit.proofs.merge.open_at.Given as goal

-- the nodes so far are at their ends
abbrev pub invariant-loop-node : goal.invariant-loop-node
invariant-loop-node l = (i : ℕ) → i < l.node → count_of l.counts i ≡ length (part_of (slice_get l.parts i))
