use Rattle.op.proofs.Lengths.{resync_count, recover_count}
use Rattle.op.proofs.writing.put_record.Goals as goal

pub put_resync-requires : goal.put_resync-requires
put_resync-requires c = rw c.as_slice.ensures (resync_count c.args.found.now c.in-Resync.term c.in-Resync.known c.in-Resync.tail c.in-Resync.is c.requires)

pub put_recover-requires : goal.put_recover-requires
put_recover-requires c = rw c.as_slice-in-Recover.ensures (recover_count c.args.found.now c.in-Recover.term c.in-Recover.all c.in-Recover.is c.requires)
