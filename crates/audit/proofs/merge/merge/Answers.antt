use Rattle.audit.proofs.Parts.{taken}
use Rattle.audit.proofs.merge.merge.Goals as goal

pub loop-node-smaller : goal.loop-node-smaller
loop-node-smaller g c =
    (taken (g.S.Stage.world c.args.stage.now) (g.S.Stage.world c.loop-node.stage) (g.S.Stage.world c.take.new.self) c.args.parts.now c.loop-node.counts c.in-Some.node c.in-Some.number c.index-parts-place.result c.as_slice.result.now
    c.index-as_slice-count.result c.index-parts-place.is c.as_slice.ensures c.index-as_slice-count.is c.in-Some.ensures.some c.in_ok-take.ensures c.loop-node.invariant.within c.loop-node.invariant.reached).1

pub loop-node-preserved : goal.loop-node-preserved
loop-node-preserved g c =
    let t = taken (g.S.Stage.world c.args.stage.now) (g.S.Stage.world c.loop-node.stage) (g.S.Stage.world c.take.new.self) c.args.parts.now c.loop-node.counts c.in-Some.node c.in-Some.number c.index-parts-place.result c.as_slice.result.now
    c.index-as_slice-count.result c.index-parts-place.is c.as_slice.ensures c.index-as_slice-count.is c.in-Some.ensures.some c.in_ok-take.ensures c.loop-node.invariant.within c.loop-node.invariant.reached in
    record { within = t.0.0; reached = t.0.1 }
