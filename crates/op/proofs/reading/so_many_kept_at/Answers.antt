use Rattle.std.proofs.lemmas.Result.{err_from_is_err_and}
use Rattle.op.specs.FormatFault.{fault_of}
use Rattle.op.specs.Reading.{kept_at, so_many_kept_at}
use Rattle.op.proofs.Loop.{records_repeat, goes_on, ends, is_done}
use Rattle.op.proofs.reading.so_many_kept_at.Goals as goal

pub returns-in_err-kept : goal.returns-in_err-kept
returns-in_err-kept c =
    let p = err_from_is_err_and c.from_residual.result c.from_residual.ensures.1 in
    rw (p.1, p.2) (ends kept_at so_many_kept_at records_repeat fault_of c.in_err-kept.field-0.0 c.loop.found.items c.args.count c.loop.counter c.loop.rest.now (so_many_kept_at c.args.count c.args.bytes.now) c.loop-test.true c.in_err-kept.ensures c.loop.invariant)

pub loop-preserved : goal.loop-preserved
loop-preserved c = rw c.in_ok-push.ensures.items (goes_on kept_at so_many_kept_at records_repeat c.loop.found.items c.args.count c.loop.counter c.loop.rest.now c.in_ok-kept.kept c.in_ok-kept.after.now (so_many_kept_at c.args.count c.args.bytes.now) c.loop-test.true c.in_ok-kept.ensures c.loop.invariant)

pub returns : goal.returns
returns c = is_done kept_at so_many_kept_at records_repeat c.loop.found.items c.args.count c.loop.counter c.loop.rest.now (so_many_kept_at c.args.count c.args.bytes.now) c.loop-test.false c.loop.invariant
