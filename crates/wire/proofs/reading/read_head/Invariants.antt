use Rattle.std.proofs.Common.{IfSome}
use Rattle.wire.specs.Scanning.{Scanning}
use Rattle.wire.proofs.reading.read_head.Given as goal

abbrev pub invariant-loop : goal.invariant-loop
invariant-loop g l = IfSome (g.R.Read.remaining l.fn.reader) (Scanning (g.R.Read.remaining l.reader) l.bytes.items l.place l.counter)
