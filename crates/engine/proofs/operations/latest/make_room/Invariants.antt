use Rattle.std.proofs.Common.{◌≡◌, ◌<◌, ◌≤◌, ℕ, length, get_or}
use Rattle.doc.specs.Id.{Id}
use Rattle.engine.specs.IdTables.{number_among, spare_at}
use Rattle.engine.proofs.operations.latest.make_room.Given as goal

-- the tables so far have room, and the numbers stay
abbrev pub invariant-loop-at : goal.invariant-loop-at
invariant-loop-at l =
    ((id : Id) → number_among l.tables id ≡ number_among l.fn.tables id)
    × ((p : ℕ) → p < l.at → get_or l.counts p 0 ≤ spare_at l.tables p)
    × (length l.tables ≡ length l.fn.tables)
