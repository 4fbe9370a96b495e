use Rattle.std.proofs.Common.{◌-◌, ◌*◌}
use Rattle.segment.proofs.halving.+finish_halves+fn-finish_halves-join+arg2+fn-finish_halves-join+arg3.Given as goal

abbrev pub decreases-finish_halves : goal.decreases-finish_halves
decreases-finish_halves g l = 2 * l.halvings

abbrev pub decreases-join+arg2 : goal.decreases-join+arg2
decreases-join+arg2 g l = 2 * l.halvings - 1

abbrev pub decreases-join+arg3 : goal.decreases-join+arg3
decreases-join+arg3 g l = 2 * l.halvings - 1
