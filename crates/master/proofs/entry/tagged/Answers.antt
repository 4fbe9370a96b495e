use Rattle.std.proofs.lemmas.Nat.{from_le_bytes-to_le_bytes_4}
use Rattle.master.proofs.entry.tagged.Goals as goal

pub returns-clause-reads : goal.returns-clause-reads
returns-clause-reads c = from_le_bytes-to_le_bytes_4 c.args.id c.ranges.id.fits
