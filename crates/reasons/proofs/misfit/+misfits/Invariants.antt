use Rattle.std.proofs.Common.{◌+◌, ◌*◌}
use Rattle.reasons.proofs.misfit.+misfits.Given as goal

abbrev pub decreases-misfit_behind : goal.decreases-misfit_behind
decreases-misfit_behind l = 3 * l.room

abbrev pub decreases-misfit_in : goal.decreases-misfit_in
decreases-misfit_in l = 3 * l.room + 1

abbrev pub decreases-misfit_within : goal.decreases-misfit_within
decreases-misfit_within l = 3 * l.room + 2
