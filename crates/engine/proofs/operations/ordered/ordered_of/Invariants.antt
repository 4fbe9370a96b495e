use Rattle.std.proofs.Common.{◌≡◌, ◌++◌}
use Rattle.std.specs.Prelude.{All}
use Rattle.op.specs.Records.{IsRecord}
use Rattle.engine.specs.Kept.{IsKept}
use Rattle.engine.proofs.operations.ordered.ordered_of.Given as goal

-- the operations so far are those of the records so far, and more records are left
abbrev pub invariant-loop-kept : goal.invariant-loop-kept
invariant-loop-kept l = record {
  kept : IsKept l.ordered l.yielded;
  left : All IsRecord l.kept-iterator.rest.items;
  whole : l.yielded ++ l.kept-iterator.rest.items ≡ l.fn.records.items;
}
