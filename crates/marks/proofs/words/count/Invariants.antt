use Rattle.std.proofs.Common.{◌≡◌, ◌*◌, length}
use Rattle.marks.specs.Bits.{marked_from}
use Rattle.marks.proofs.words.count.Given as goal

-- the places so far
abbrev pub invariant-loop-at : goal.invariant-loop-at
invariant-loop-at l = l.total ≡ length (marked_from l.words 0 (64 * l.at))
