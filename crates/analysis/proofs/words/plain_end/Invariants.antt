use Rattle.std.proofs.Common.{ℕ, ◌<◌, ◌≤◌, slice_index, IsTrue}
use Rattle.std.specs.Char.{is_ascii_alphanumeric}
use Rattle.analysis.proofs.words.plain_end.Given as goal

abbrev pub invariant-loop-index : goal.invariant-loop-index
invariant-loop-index l = (k : ℕ) → l.from ≤ k → k < l.index → IsTrue (is_ascii_alphanumeric (slice_index l.text k))
