use Rattle.std.proofs.Common.{◌≡◌, ◌-◌}
use Rattle.op.specs.Reading.{so_many_kept_at}
use Rattle.op.proofs.Loop.{with_front}
use Rattle.op.proofs.reading.so_many_kept_at.Given as goal

abbrev pub invariant-loop : goal.invariant-loop
invariant-loop l = with_front l.found.items (so_many_kept_at (l.count - l.counter) l.rest) ≡ so_many_kept_at l.count l.bytes
