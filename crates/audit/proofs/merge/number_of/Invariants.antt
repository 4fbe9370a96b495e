use Rattle.std.proofs.Common.{◌<◌, ℕ}
use Rattle.journal.specs.declared.moves.Move.{Move}
use Rattle.audit.specs.Moves.{IsNext}
use Rattle.audit.specs.Merge.{moves_in, count_of}
use Rattle.audit.proofs.merge.number_of.Given as goal

-- no move of the nodes so far can come
abbrev pub invariant-loop-node : goal.invariant-loop-node
invariant-loop-node g l = (i k : ℕ) (m : Move) → i < l.node → IsNext (moves_in l.parts) (g.S.Stage.world l.stage) (count_of l.counts) i k m → ⊥
