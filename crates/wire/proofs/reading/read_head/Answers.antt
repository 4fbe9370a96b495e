use Rattle.std.proofs.Common.{◌≡◌, arith, sym, ◌∙◌, Some, None}
use Rattle.wire.specs.Cut.{next}
use Rattle.wire.proofs.Heads.{begins, goes_on, ends, stops, is_long}
use Rattle.wire.proofs.reading.read_head.Goals as goal

pub loop-init : goal.loop-init
loop-init g c = rw c.new-bytes.ensures.items (begins (g.R.Read.remaining c.args.reader.now))

pub returns-in_default-clause-head : goal.returns-in_default-clause-head
returns-in_default-clause-head g c =
    stops (g.R.Read.remaining c.args.reader.now) (g.R.Read.remaining c.loop.reader) (g.R.Read.remaining c.next_byte.new.reader) c.loop.bytes.items c.loop.place c.loop.counter
    (omega arith) c.loop.invariant (rw c.in_default.is at c.in_ok-byte.ensures.byte)

pub returns-in-None-clause-head : goal.returns-in-None-clause-head
returns-in-None-clause-head g c =
    let e : next c.loop.place c.in-Some.byte ≡ None = sym c.next.ensures ∙ c.in-None.is in
    rw c.in_ok-push.ensures.items (ends (g.R.Read.remaining c.args.reader.now) (g.R.Read.remaining c.loop.reader) (g.R.Read.remaining c.next_byte.new.reader) c.loop.bytes.items c.loop.place c.loop.counter c.in-Some.byte
    e (omega arith) c.loop.invariant (rw c.in-Some.is at c.in_ok-byte.ensures.byte))

pub loop-preserved : goal.loop-preserved
loop-preserved g c =
    let e : next c.loop.place c.in-Some.byte ≡ Some c.in-Some-next.next = sym c.next.ensures ∙ c.in-Some-next.is in
    rw c.in_ok-push.ensures.items (goes_on (g.R.Read.remaining c.args.reader.now) (g.R.Read.remaining c.loop.reader) (g.R.Read.remaining c.next_byte.new.reader) c.loop.bytes.items c.loop.place c.in-Some-next.next c.loop.counter c.in-Some.byte
    e (omega arith) c.loop.invariant (rw c.in-Some.is at c.in_ok-byte.ensures.byte))

pub returns-clause-head : goal.returns-clause-head
returns-clause-head g c = is_long (g.R.Read.remaining c.args.reader.now) (g.R.Read.remaining c.loop.reader) c.loop.bytes.items c.loop.place c.loop.counter (omega arith) c.loop.invariant
