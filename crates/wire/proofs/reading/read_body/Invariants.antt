use Rattle.std.proofs.Common.{length, IfSome, ◌-◌, ◌≤◌}
use Rattle.wire.specs.Reading.{Filling}
use Rattle.wire.proofs.reading.read_body.Given as goal

abbrev pub invariant-loop-room : goal.invariant-loop-room
invariant-loop-room g l = record {
  filled : IfSome (g.R.Read.remaining l.fn.reader) (Filling (g.R.Read.remaining l.reader) l.body.items);
  bounded : length l.body.items ≤ l.length;
}

abbrev pub decreases-loop-room : goal.decreases-loop-room
decreases-loop-room g l = l.length - length l.body.items
