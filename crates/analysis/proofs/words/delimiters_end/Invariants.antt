use Rattle.std.proofs.Common.{ℕ, ◌<◌, ◌≤◌, slice_index, IsTrue}
use Rattle.analysis.specs.Delimiter.{is_delimiter}
use Rattle.analysis.proofs.words.delimiters_end.Given as goal

abbrev pub invariant-loop-index : goal.invariant-loop-index
invariant-loop-index l = (k : ℕ) → l.from ≤ k → k < l.index → IsTrue (is_delimiter (slice_index l.text k))
