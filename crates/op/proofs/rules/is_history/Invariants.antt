use Rattle.std.proofs.Common.{◌≡◌, drop}
use Rattle.op.specs.Rules.{is_history}
use Rattle.op.proofs.rules.is_history.Given as goal

abbrev pub invariant-loop-op : goal.invariant-loop-op
invariant-loop-op l = is_history l.term l.next (drop l.op-index l.operations) ≡ is_history l.term l.from l.operations
