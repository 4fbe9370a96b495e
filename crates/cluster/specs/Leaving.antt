-- What leaves the worker of a copy.
use Rattle.std.specs.Prelude.{List, [], Result, Ok, Err}
use Rattle.op.specs.declared.message.Msg.{Msg}
use Rattle.replica.specs.declared.fault.CopyFault.{CopyFault}
use Rattle.replica.specs.declared.output.Output.{Output}

-- the messages that an entry with this answer sends
abbrev pub sent_by : Result Output CopyFault → List Msg
sent_by (Ok output) = output.sent
sent_by (Err e) = []
