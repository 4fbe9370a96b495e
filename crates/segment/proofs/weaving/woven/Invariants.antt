use Rattle.segment.specs.WovenColumns.{AreSoFar}
use Rattle.segment.proofs.weaving.woven.Given as goal

-- the columns have the documents of the strands so far
abbrev pub invariant-loop-strand : goal.invariant-loop-strand
invariant-loop-strand l = AreSoFar l.mapping l.sources l.taken l.makings
