use Rattle.world.proofs.Primaries.{always_in_sync}
use Rattle.world.proofs.laws.the_copies_in_sync_are_there.Goals as goal

pub returns : goal.returns
returns c = always_in_sync
