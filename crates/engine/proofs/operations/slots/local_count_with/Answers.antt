use Rattle.std.proofs.Common.{arith}
use Rattle.std.proofs.lemmas.Bool.Decides.{nat_tests}
use Rattle.std.proofs.lemmas.Grind.{common_steps}
use Rattle.op.proofs.LocalLaws.{local_count-add, reached-length}
use Rattle.engine.specs.Slot.{ops}
use Rattle.engine.proofs.SlotLaws.{length-ops, ops-drop}
use Rattle.engine.proofs.operations.slots.local_count_with.Goals as goal

-- there are no more than operations
pub overflow_add-count : goal.overflow_add-count
overflow_add-count c = omega (arith, reached-length 0 (ops c.args.slots.now), length-ops c.args.slots.now)

pub offset_bounds-slots-count : goal.offset_bounds-slots-count
offset_bounds-slots-count c = omega (arith, reached-length 0 (ops c.args.slots.now), length-ops c.args.slots.now)

pub slice_bounds-reached-count : goal.slice_bounds-reached-count
slice_bounds-reached-count c = omega (arith, reached-length 0 (ops c.args.slots.now), length-ops c.args.slots.now)

pub slice_bounds-reached-start : goal.slice_bounds-reached-start
slice_bounds-reached-start c = omega (arith, reached-length 0 (ops c.args.slots.now), length-ops c.args.slots.now)

pub reached-requires : goal.reached-requires
reached-requires c = grind (arith, common_steps, reached-length 0 (ops c.args.slots.now), length-ops c.args.slots.now)

pub returns-then-op-count : goal.returns-then-op-count
returns-then-op-count c = grind (arith, nat_tests, local_count-add (ops c.args.slots.now) c.args.op.now c.requires.up c.requires.free, ops-drop c.args.count c.args.slots.now)

pub returns : goal.returns
returns c = grind (arith, nat_tests, common_steps, local_count-add (ops c.args.slots.now) c.args.op.now c.requires.up c.requires.free, ops-drop c.args.count c.args.slots.now)
