use Rattle.world.proofs.Primaries.{always_by_primary}
use Rattle.world.proofs.laws.the_primary_has_what_is_acknowledged.Goals as goal

pub returns : goal.returns
returns c = always_by_primary
