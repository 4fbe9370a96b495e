use Rattle.std.proofs.Common.{true, length, refl}
use Rattle.std.specs.Prelude.{IsTrue}
use Rattle.std.proofs.lemmas.List.Elements.{at_read, AllWithin-more, AllWithin-upto, All-from_all_within}
use Rattle.cluster.specs.Confirmed.{IsBehind}
use Rattle.cluster.proofs.checks.are_behind.Goals as goal

pub loop-other-preserved : goal.loop-other-preserved
loop-other-preserved g c =
    let yes : IsTrue true = refl in
    let here = at_read c.args.others.now (IsBehind c.args.first.now) c.loop-other.other-index c.other-item.result c.loop-other-test.true c.other-item.is (c.if-not-is_behind.ensures yes) in
    AllWithin-more (IsBehind c.args.first.now) c.args.others.now 0 c.loop-other.other-index c.loop-other.invariant here

pub returns : goal.returns
returns g c = λ _. All-from_all_within (IsBehind c.args.first.now) c.args.others.now (AllWithin-upto (IsBehind c.args.first.now) c.args.others.now 0 c.loop-other.other-index (length c.args.others.now) c.loop-other-test.false c.loop-other.invariant)
