use Rattle.std.proofs.Common.{true}
use Rattle.cell.proofs.following.write_is_found.Given as goal

-- the cell whose list is shown
abbrev pub ghosts-found_behind : goal.ghosts-found_behind
ghosts-found_behind g a = record { named = true; cell = a.cell.now.line.shown.listing.cell }
