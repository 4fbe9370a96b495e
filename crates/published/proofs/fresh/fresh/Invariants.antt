use Rattle.std.proofs.Common.{true}
use Rattle.published.proofs.fresh.fresh.Given as goal

-- the cell of the publisher
abbrev pub ghosts-found_after : goal.ghosts-found_after
ghosts-found_after g a = record { named = true; cell = a.publisher.now.shown.listing.cell }
