use Rattle.chronicle.proofs.ledger.Memory.add.Goals as goal
use Rattle.chronicle.proofs.Memories.{last_of}

pub returns-in-Last-clause-added : goal.returns-in-Last-clause-added
returns-in-Last-clause-added g c = λ entries is. last_of entries c.args.entry
