use Rattle.std.proofs.Common.{drop}
use Rattle.audit.specs.Ruled.{AreRuledSoFar}
use Rattle.audit.proofs.ruler.judge_rulings.Given as goal

abbrev pub invariant-loop-place : goal.invariant-loop-place
invariant-loop-place l = AreRuledSoFar l.initial.ruler l.ruler l.place l.rulings (drop l.place l.rulings) l.items.items
