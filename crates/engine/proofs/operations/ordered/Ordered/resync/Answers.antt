use Rattle.op.proofs.RecordLaws.{IsAscending-below}
use Rattle.engine.specs.Slot.{ops}
use Rattle.engine.proofs.operations.ordered.Ordered.resync.Goals as goal

-- what a resync leaves rises
pub of-requires : goal.of-requires
of-requires c =
    rw (c.deref-3.ensures.value, c.in_ok-all.ensures, c.deref-2.ensures.value)
    (IsAscending-below c.args.count (ops c.self.inside.slots.items) c.args.tail.now c.self.invariant.0 c.requires)
