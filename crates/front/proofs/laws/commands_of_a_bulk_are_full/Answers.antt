use Rattle.front.proofs.FullCommands.{are_full}
use Rattle.front.proofs.laws.commands_of_a_bulk_are_full.Goals as goal

pub returns : goal.returns
returns c = are_full
