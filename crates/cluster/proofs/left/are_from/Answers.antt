use Rattle.std.proofs.Common.{rules, ◌<◌, length}
use Rattle.cluster.specs.Journals.{IsOwnFrom}
use Rattle.cluster.proofs.Handed.{zip_more}
use Rattle.cluster.proofs.left.are_from.Goals as goal

pub loop-count-preserved : goal.loop-count-preserved
loop-count-preserved g c =
    let cs = c.args.began.now in
    let within : c.loop-count.count < length cs = search rules in
    zip_more IsOwnFrom cs c.args.lefts.now c.loop-count.count c.index-began-count.result c.index-lefts-count.result within c.loop-count-test.true c.index-began-count.is c.index-lefts-count.is c.loop-count.invariant (c.is_from.ensures (search rules))
