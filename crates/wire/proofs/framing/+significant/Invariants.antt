use Rattle.std.proofs.Common.{length}
use Rattle.wire.proofs.framing.+significant.Given as goal

abbrev pub decreases-significant : goal.decreases-significant
decreases-significant l = length l.value.now
