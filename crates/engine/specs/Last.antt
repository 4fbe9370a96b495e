-- The last operation on an id.
use Rattle.std.specs.Prelude.{is_some}
use Rattle.op.specs.declared.operation.Op.{Op}
use Rattle.op.specs.Documents.{left_by}
use Rattle.engine.specs.declared.engine.Last.{Last}

-- its numbers, and whether it left a document
abbrev pub last_of : Op → Last
last_of o = record { seq = o.seq; term = o.term; version = o.version; live = is_some (left_by o o.body) }
