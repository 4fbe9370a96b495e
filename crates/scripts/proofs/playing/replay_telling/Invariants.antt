use Rattle.std.proofs.Common.{IfSome}
use Rattle.scripts.specs.Going.{Going}
use Rattle.scripts.proofs.playing.replay_telling.Given as goal

-- what is written and what is left make up the output
abbrev pub invariant-loop : goal.invariant-loop
invariant-loop g l = IfSome (g.R.Read.remaining l.fn.reader) (Going (g.W.Write.contents l.fn.writer) (g.W.Write.contents l.writer) (g.R.Read.remaining l.reader) l.index)
