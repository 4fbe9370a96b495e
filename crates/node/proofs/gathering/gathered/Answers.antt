use Rattle.std.proofs.Common.{◌≡◌, length, Some, refl}
use Rattle.std.specs.Prelude.{slice_get}
use Rattle.std.proofs.lemmas.Option.{slice_get_read}
use Rattle.std.proofs.lemmas.Result.{err_from_is_err_and}
use Rattle.node.proofs.Receipts.{passes_on, strays_among}
use Rattle.node.proofs.gathering.gathered.Goals as goal

pub returns-in_err-check-clause-stray : goal.returns-in_err-check-clause-stray
returns-in_err-check-clause-stray g c =
    let p = err_from_is_err_and c.from_residual.result c.from_residual.ensures.1 in
    let at : slice_get c.args.passes.now c.loop-count.count ≡ Some c.index-passes-count.result = slice_get_read c.args.passes.now (length c.args.passes.now) c.loop-count.count c.index-passes-count.result refl c.loop-count-test.true c.index-passes-count.is in
    rw (p.1, p.2) (strays_among c.args.journal.now c.args.passes.now c.loop-count.count c.index-passes-count.result _ at c.loop-count.invariant c.in_err-check.ensures.stray)

pub loop-count-preserved : goal.loop-count-preserved
loop-count-preserved g c =
    let at : slice_get c.args.passes.now c.loop-count.count ≡ Some c.index-passes-count.result = slice_get_read c.args.passes.now (length c.args.passes.now) c.loop-count.count c.index-passes-count.result refl c.loop-count-test.true c.index-passes-count.is in
    passes_on c.args.journal.now c.args.passes.now c.loop-count.count c.index-passes-count.result at c.in_ok-check.ensures.ok c.loop-count.invariant
