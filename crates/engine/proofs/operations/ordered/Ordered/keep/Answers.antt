use Rattle.std.proofs.Common.{◌≡◌, [], arith}
use Rattle.std.proofs.lemmas.Grind.{common_steps}
use Rattle.std.proofs.lemmas.Int.{to_z-of_z}
use Rattle.op.specs.Checkpoint.{known}
use Rattle.op.proofs.RecordLaws.{IsAscending-after}
use Rattle.engine.proofs.ResyncLaws.{runs_on}
use Rattle.engine.proofs.operations.ordered.Ordered.keep.Goals as goal

-- the numbers run on from the checkpoint
pub resync-requires : goal.resync-requires
resync-requires c =
    let counted : c.count.result ≡ known c.in-Resync.known = grind (arith, common_steps, to_z-of_z) in
    runs_on c.args.kept c.in-Resync.field-0 c.count.result c.in-Resync.known c.in-Resync.tail c.requires c.in-Resync.is counted

-- what a recovery brings rises
pub of-requires : goal.of-requires
of-requires c =
    rw c.as_slice.ensures
    (rw c.in-Recover.is at (IsAscending-after [] c.args.kept tt c.requires))
