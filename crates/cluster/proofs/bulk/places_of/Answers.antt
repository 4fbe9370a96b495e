use Rattle.cluster.proofs.Bulks.{settled_more}
use Rattle.cluster.proofs.bulk.places_of.Goals as goal

pub loop-item-preserved : goal.loop-item-preserved
loop-item-preserved g c =
    settled_more c.args.entries.now c.args.items.now c.loop-item.item-index _ c.loop-item.places.items c.push.new.self.items c.in-Some.place c.loop-item-test.true c.loop-item.invariant c.in-Some.ensures c.in_ok-push.ensures.items
