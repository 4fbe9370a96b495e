use Rattle.std.proofs.Common.{length}
use Rattle.wire.proofs.framing.+lists_close.Given as goal

abbrev pub decreases-lists_close : goal.decreases-lists_close
decreases-lists_close l = length l.value.now
