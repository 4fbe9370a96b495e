use Rattle.std.proofs.Common.{◌≡◌, ◌++◌, string_bytes}
use Rattle.front.specs.PieceView.{joined}
use Rattle.front.proofs.pieces.whole.Given as goal

-- the text so far, and the pieces that are left
abbrev pub invariant-loop-piece : goal.invariant-loop-piece
invariant-loop-piece l = string_bytes l.text ++ joined l.piece-iterator.rest.items ≡ string_bytes l.fn.first ++ joined l.fn.rest.items
