use Rattle.std.proofs.Common.{◌≡◌, ◌<◌, ◌≤◌, ℕ, length}
use Rattle.doc.specs.Id.{Id}
use Rattle.engine.specs.IdTables.{count_at, number_among, spare_at}
use Rattle.engine.specs.OperationIndex.{noted}
use Rattle.engine.proofs.operations.latest.insert_all.Given as goal

-- with those that are left all will be noted, and there is room for them
abbrev pub invariant-loop-id : goal.invariant-loop-id
invariant-loop-id l =
    ((id : Id) → noted l.id-iterator.rest.items id (number_among l.tables id) ≡ noted l.fn.numbers.items id (number_among l.fn.tables id))
    × ((p : ℕ) → p < length l.fn.tables → count_at (length l.fn.tables) p l.id-iterator.rest.items ≤ spare_at l.tables p)
    × (length l.tables ≡ length l.fn.tables)
    × (l.id-iterator.rest.len ≡ length l.id-iterator.rest.items)
