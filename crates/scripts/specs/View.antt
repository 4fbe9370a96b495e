-- Commands, refusals and answers as they are kept.
-- For proofs alone: no public contract rests on it.
use Rattle.std.specs.Prelude.{Option, Some, None, option_map}
use Rattle.doc.specs.Fault as doc
use Rattle.query.specs.Fault as query
use Rattle.engine.specs.Shown.{hits_view}
use Rattle.replica.specs.Fault as replica
use Rattle.master.specs.Fault as master
use Rattle.scripts.specs.declared.command.LineWrite.{LineWrite}
use Rattle.scripts.specs.declared.command.LineWrite.TheVariants.{Index, Create, Delete}
use Rattle.scripts.specs.declared.command.Command.{Command}
use Rattle.scripts.specs.declared.command.Command.TheVariants.{Open, Write, Get, Refresh, Restart, Merge, Swap, Search, Deliver, Promote, Allocate, Fail, TornDelivery, TornPut, Bulk, TornBulk}
use Rattle.scripts.specs.declared.refusal.Refusal.{Refusal}
use Rattle.scripts.specs.declared.refusal.Refusal.TheVariants.{BadLine, NotOpen, AlreadyOpen, BadCount, NoSuchCopy, NoSuchMessage, Doc, Query, Copy, Master, NoMemory}
use Rattle.scripts.specs.declared.reply.Reply.{Reply}
use Rattle.scripts.specs.declared.reply.Reply.TheVariants.{Opened, Answered, Decided, Delivered, Torn, Merging, Merged, Hits}
use Rattle.scripts.specs.Command as command
use Rattle.scripts.specs.Refusal as refusal
use Rattle.scripts.specs.Reply as reply

abbrev pub line_write_view : LineWrite → command.LineWrite
line_write_view (Index source condition) = command.index source.now condition
line_write_view (Create source) = command.create source.now
line_write_view (Delete condition) = command.delete condition

abbrev pub command_view : Command → command.Command
command_view (Open copies mapping) = command.opening copies mapping.now
command_view (Write copy id change) = command.write copy id.now (line_write_view change)
command_view (Get copy id) = command.get copy id.now
command_view (Refresh copy) = command.refresh copy
command_view (Restart copy) = command.restart copy
command_view (Merge copy) = command.merge copy
command_view (Swap copy) = command.swap copy
command_view (Search copy body) = command.search copy body.now
command_view (Deliver message) = command.deliver message
command_view (Promote copy) = command.promote copy
command_view Allocate = command.allocate
command_view (Fail copy) = command.fail copy
command_view (TornDelivery message kept) = command.torn_delivery message kept
command_view (TornPut copy kept id source) = command.torn_put copy kept id.now source.now
command_view (Bulk copy ids) = command.bulk copy ids
command_view (TornBulk copy kept ids) = command.torn_bulk copy kept ids

-- the refusal that a script sees, or nothing where memory ran out
abbrev pub refusal_of : Refusal → Option refusal.Refusal
refusal_of BadLine = Some refusal.bad_line
refusal_of NotOpen = Some refusal.not_open
refusal_of AlreadyOpen = Some refusal.already_open
refusal_of BadCount = Some refusal.bad_count
refusal_of NoSuchCopy = Some refusal.no_such_copy
refusal_of NoSuchMessage = Some refusal.no_such_message
refusal_of (Doc f) = option_map refusal.of_doc (doc.fault_of f)
refusal_of (Query f) = option_map refusal.of_query (query.fault_of f)
refusal_of (Copy f) = option_map refusal.of_copy (replica.fault_of f)
refusal_of (Master f) = option_map refusal.of_master (master.fault_of f)
refusal_of NoMemory = None

abbrev pub reply_view : Reply → reply.Reply
reply_view Opened = reply.opened
reply_view (Answered a before sent acknowledged) = reply.answered a before sent acknowledged
reply_view (Decided given before sent) = reply.decided given before sent
reply_view (Delivered repeated before sent) = reply.delivered repeated before sent
reply_view (Torn point) = reply.torn point
reply_view Merging = reply.merging
reply_view Merged = reply.merged
reply_view (Hits h) = reply.hits (hits_view h)
