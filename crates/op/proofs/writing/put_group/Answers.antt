use Rattle.std.proofs.Common.{length, ◌∷◌}
use Rattle.std.specs.Int.{w32, to_le_bytes}
use Rattle.op.specs.Format.{kept_fields}
use Rattle.op.proofs.Lengths.{one_more}
use Rattle.op.proofs.writing.put_group.Goals as goal

pub loop-found-preserved : goal.loop-found-preserved
loop-found-preserved c = one_more kept_fields c.args.out.now.items (4 ∷ to_le_bytes w32 (length c.args.group.now)) c.args.group.now c.loop-found.found-index c.found-item.result _ _ c.loop-found-test.true c.found-item.is c.loop-found.invariant c.in_ok-put_fields.ensures
