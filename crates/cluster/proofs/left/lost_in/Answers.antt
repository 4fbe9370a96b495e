use Rattle.std.proofs.Common.{rules, length}
use Rattle.std.proofs.lemmas.List.Elements.{at_read, AllWithin-more, AllWithin-upto, All-from_all_within}
use Rattle.cluster.specs.Journals.{StandsIn}
use Rattle.cluster.proofs.left.lost_in.Goals as goal

pub loop-receipt-preserved : goal.loop-receipt-preserved
loop-receipt-preserved g c =
    let here = at_read c.args.receipts.now (StandsIn c.args.lefts.now) c.loop-receipt.receipt-index c.receipt-item.result c.loop-receipt-test.true c.receipt-item.is (c.is_in.ensures.has (search rules)) in
    AllWithin-more (StandsIn c.args.lefts.now) c.args.receipts.now 0 c.loop-receipt.receipt-index c.loop-receipt.invariant here

pub returns-clause-stand : goal.returns-clause-stand
returns-clause-stand g c = All-from_all_within (StandsIn c.args.lefts.now) c.args.receipts.now (AllWithin-upto (StandsIn c.args.lefts.now) c.args.receipts.now 0 c.loop-receipt.receipt-index (length c.args.receipts.now) (search rules) c.loop-receipt.invariant)
