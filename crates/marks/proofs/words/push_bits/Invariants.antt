use Rattle.std.proofs.Common.{◌≡◌, ◌++◌}
use Rattle.marks.specs.Bits.{set_bits}
use Rattle.marks.proofs.words.push_bits.Given as goal

-- the bits that are left are still to be added
abbrev pub invariant-loop-left : goal.invariant-loop-left
invariant-loop-left l = l.found.items ++ set_bits 64 l.base l.left ≡ l.initial.found.items ++ set_bits 64 l.base l.word

abbrev pub decreases-loop-left : goal.decreases-loop-left
decreases-loop-left l = l.left
