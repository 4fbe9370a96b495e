use Rattle.std.proofs.Common.{◌≡◌, length}
use Rattle.segment.proofs.PieceLaws.{IsSoFar}
use Rattle.segment.proofs.pieces.columns_of.Given as goal

-- the columns of the pieces so far, and the pieces that are left
abbrev pub invariant-loop-piece : goal.invariant-loop-piece
invariant-loop-piece g l = IsSoFar l.mapping l.size l.len l.sources l.makings l.piece-iterator.rest.items × (l.piece-iterator.rest.len ≡ length l.piece-iterator.rest.items)
