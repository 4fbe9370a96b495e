-- The members of an entry as they are written, for private clauses.
use Rattle.std.specs.Prelude.{codes, Option, Some, None, Result, Ok, Err}
use Rattle.serde_json.specs.Data.{Members, no_members, put}
use Rattle.op.specs.declared.message.Msg.{Msg}
use Rattle.replica.specs.declared.output.Output.{Output}
use Rattle.replica.specs.declared.fault.CopyFault.{CopyFault}
use Rattle.master.specs.declared.state.Decision.{Decision}
use Rattle.master.specs.declared.fault.MasterFault.{MasterFault}
use Rattle.journals.specs.Items.{natural, message_data, messages_data, ops_data}
use Rattle.journals.specs.Answered.{answer_data, denial_data, fault_data}
use Rattle.journals.specs.Entries.{decided_data}

abbrev pub output_members : Output → Members → Members
output_members o ms = put (codes "members") (natural o.members) (put (codes "acknowledged") (ops_data o.acknowledged) (put (codes "sent") (messages_data o.sent) (put (codes "answered") (answer_data o.answer) ms)))

abbrev pub answer_members : Result Output CopyFault → Members
answer_members (Ok o) = output_members o no_members
answer_members (Err f) = put (codes "answered") (fault_data f) no_members

abbrev pub sent_members : Option Msg → Members → Members
sent_members None ms = ms
sent_members (Some m) ms = put (codes "sent") (message_data m) ms

abbrev pub decision_members : Decision → Members → Members
decision_members it ms = sent_members it.sent (put (codes "answered") (decided_data it.repeated it.given) ms)

abbrev pub ruled_members : Result Decision MasterFault → Members
ruled_members (Ok it) = decision_members it no_members
ruled_members (Err f) = put (codes "answered") (denial_data f) no_members
