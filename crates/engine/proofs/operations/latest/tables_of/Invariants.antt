use Rattle.std.proofs.Common.{◌≡◌, length}
use Rattle.engine.proofs.IdTablesLaws.{AreEmpty}
use Rattle.engine.proofs.operations.latest.tables_of.Given as goal

-- so many empty tables
abbrev pub invariant-loop : goal.invariant-loop
invariant-loop l = (length l.tables.items ≡ l.counter) × AreEmpty l.tables.items
