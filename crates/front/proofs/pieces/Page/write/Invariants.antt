use Rattle.front.proofs.PieceLists.{WrittenTo}
use Rattle.front.proofs.pieces.Page.write.Given as goal

-- what was written, and the pieces that are left
abbrev pub invariant-loop-piece : goal.invariant-loop-piece
invariant-loop-piece g l = WrittenTo (g.W.Write.contents l.fn.writer) (g.W.Write.contents l.writer) l.piece-iterator.rest.items l.fn.self
