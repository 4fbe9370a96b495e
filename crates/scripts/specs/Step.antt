-- What a command does to the copies of an index.
use Rattle.std.specs.Prelude.{ℕ, Bool, nat_lt, ◌==◌, ◌||◌, List, length, codes, Option, Some, None, Result, Ok, Err, if◌then◌else◌}
use Rattle.serde_json.specs.Data.{Data}
use Rattle.serde_json.specs.Read.{read}
use Rattle.doc.specs.Outcome.{◌>>=◌, try_map}
use Rattle.doc.specs.Id.{id_of}
use Rattle.doc.specs.Mapping.{MappingData, mapping_of}
use Rattle.doc.specs.Document.{doc_of}
use Rattle.doc.specs.Fault as doc
use Rattle.doc.specs.Fault.{not_json}
use Rattle.op.specs.Records.{shown}
use Rattle.query.specs.Fault.{parsing}
use Rattle.query.specs.Body.{body_of}
use Rattle.engine.specs.Answer.{answer}
use Rattle.replica.specs.declared.input.OpType.{OpType}
use Rattle.replica.specs.declared.input.OpType.TheVariants.{Index, Create, Delete}
use Rattle.replica.specs.declared.input.Write.{Write}
use Rattle.replica.specs.Copy.{Copy}
use Rattle.world.specs.declared.event.Event.{Event}
use Rattle.world.specs.declared.event.Event.TheVariants.{Write as Writes, Bulk, Get, Refresh, Restart, Deliver, Report, Promote, Allocate, TornWrite, TornBulk, TornDelivery}
use Rattle.world.specs.declared.event.EventAnswer.{EventAnswer}
use Rattle.world.specs.declared.event.EventAnswer.TheVariants.{Answered, Decided, Delivered, Torn, Refused, RefusedByMaster, NoSuchCopy, NoSuchMessage}
use Rattle.world.specs.World.{World, copy_in, new_world, world_step}
use Rattle.scripts.specs.Command.{Command, LineWrite, index, create, delete, opening, write, get, refresh, restart, merge, swap, search, deliver, promote, allocate, fail, torn_delivery, torn_put, bulk, torn_bulk}
use Rattle.scripts.specs.Refusal.{Refusal, not_open, already_open, bad_count, no_such_copy, no_such_message, of_doc, of_query, of_copy, of_master, in_doc, in_query}
use Rattle.scripts.specs.Reply.{Reply, opened, answered, decided, delivered, torn, merging, merged, hits}

-- the master, the copies and their messages, where the index is open
abbrev pub State : Type 0
State = Option World

-- what is there after a command, and its answer
abbrev pub Step : Type 0 → Type 0
Step A = Result (A × Reply) Refusal

-- what an event answers, where `before` messages were sent before it
abbrev pub reply_of : ℕ → EventAnswer → Result Reply Refusal
reply_of before (Answered a sent acknowledged) = Ok (answered a before sent acknowledged)
reply_of before (Decided given sent) = Ok (decided given before sent)
reply_of before (Delivered repeated sent) = Ok (delivered repeated before sent)
reply_of before (Torn point) = Ok (torn point)
reply_of before (Refused f) = Err (of_copy f)
reply_of before (RefusedByMaster f) = Err (of_master f)
reply_of before NoSuchCopy = Err no_such_copy
reply_of before NoSuchMessage = Err no_such_message

-- an event: the world that it leaves, and what it answers
abbrev pub taken : World → Event → Step World
taken w e = reply_of (length w.messages) (world_step w e).answer >>= λ r. Ok ((world_step w e).world, r)

-- ids have 32 bits: a greater number names no copy, as 0 does
abbrev pub id_named : ℕ → ℕ
id_named n = if nat_lt n 4294967296 then n else 0

abbrev pub there : Option Copy → Result Copy Refusal
there None = Err no_such_copy
there (Some c) = Ok c

-- the source of a document that fits the mapping, or the document's fault
abbrev pub source_in : MappingData → List ℕ → Result (List ℕ) doc.Fault
source_in m text = doc_of m text >>= λ d. Ok d.source

-- what a write does, with its document read under the mapping
abbrev pub kind_of : MappingData → LineWrite → Result OpType Refusal
kind_of m (index text condition) = in_doc (source_in m text) >>= λ source. Ok (Index source condition)
kind_of m (create text) = in_doc (source_in m text) >>= λ source. Ok (Create source)
kind_of m (delete condition) = Ok (Delete condition)

-- the id, then the document
abbrev pub write_of : MappingData → List ℕ → LineWrite → Result Write Refusal
write_of m id change = in_doc (id_of id) >>= λ i. kind_of m change >>= λ kind. Ok (record { id = i; kind = kind })

-- a write: the copy, then what is written, then the step
unfoldable pub write_at : World → ℕ → List ℕ → LineWrite → Step World
write_at w copy id change = do
  c ← there (copy_in w.copies copy)
  change ← write_of c.mapping id change
  taken w (Writes copy change)

-- a put whose append is cut
unfoldable pub torn_put_at : World → ℕ → Bool → List ℕ → List ℕ → Step World
torn_put_at w copy kept id text = do
  c ← there (copy_in w.copies copy)
  change ← write_of c.mapping id (index text None)
  taken w (TornWrite copy change kept)

-- a put of `{}`
abbrev pub put_of : MappingData → List ℕ → Result Write Refusal
put_of m id = write_of m id (index (codes "{}") None)

-- one for each id
abbrev pub puts_of : MappingData → List (List ℕ) → Result (List Write) Refusal
puts_of m ids = try_map (put_of m) ids

-- a bulk of them: the copy, then the ids in order, then the step
unfoldable pub bulk_at : World → ℕ → List (List ℕ) → Step World
bulk_at w copy ids = do
  c ← there (copy_in w.copies copy)
  puts ← puts_of c.mapping ids
  taken w (Bulk copy puts)

-- a bulk of puts whose append is cut
unfoldable pub torn_bulk_at : World → ℕ → Bool → List (List ℕ) → Step World
torn_bulk_at w copy kept ids = do
  c ← there (copy_in w.copies copy)
  puts ← puts_of c.mapping ids
  taken w (TornBulk copy puts kept)

-- `get` shows all records
unfoldable pub get_at : World → ℕ → List ℕ → Step World
get_at w copy id = do
  c ← there (copy_in w.copies copy)
  i ← in_doc (id_of id)
  taken w (Get copy i)

abbrev pub read_or_parsing : Option Data → Result Data Refusal
read_or_parsing None = Err (of_query parsing)
read_or_parsing (Some d) = Ok d

-- `search` answers over the records of the copy up to its point
unfoldable pub search_at : World → ℕ → List ℕ → Step World
search_at w copy body = do
  c ← there (copy_in w.copies copy)
  d ← read_or_parsing (read body)
  q ← in_query (body_of c.mapping d)
  Ok (w, hits (answer c.mapping (shown c.records c.point) q.0 q.1))

-- a merge of a copy's parts leaves the world as it is, whether or not what it is made of is still there when it is over
abbrev pub merged_at : World → Option Copy → Reply → Step World
merged_at w None r = Err no_such_copy
merged_at w (Some c) r = Ok (w, r)

-- a command to an index that is open; `fail` is a report of the master's primary
abbrev pub step_open : World → Command → Step World
step_open w (opening copies mapping) = Err already_open
step_open w (write copy id change) = write_at w (id_named copy) id change
step_open w (get copy id) = get_at w (id_named copy) id
step_open w (refresh copy) = taken w (Refresh (id_named copy))
step_open w (restart copy) = taken w (Restart (id_named copy))
step_open w (merge copy) = merged_at w (copy_in w.copies (id_named copy)) merging
step_open w (swap copy) = merged_at w (copy_in w.copies (id_named copy)) merged
step_open w (search copy body) = search_at w (id_named copy) body
step_open w (deliver message) = taken w (Deliver message)
step_open w (promote copy) = taken w (Promote (id_named copy))
step_open w allocate = taken w Allocate
step_open w (fail copy) = taken w (Report w.master.primary (id_named copy))
step_open w (torn_delivery message kept) = taken w (TornDelivery message kept)
step_open w (torn_put copy kept id text) = torn_put_at w (id_named copy) kept id text
step_open w (bulk copy ids) = bulk_at w (id_named copy) ids
step_open w (torn_bulk copy kept ids) = torn_bulk_at w (id_named copy) kept ids

abbrev pub read_or_not_json : Option Data → Result Data Refusal
read_or_not_json None = Err (of_doc not_json)
read_or_not_json (Some d) = Ok d

-- a new index of some copies under a mapping
unfoldable pub new_index : ℕ → List ℕ → Result World Refusal
new_index copies mapping = do
  d ← read_or_not_json (read mapping)
  m ← in_doc (mapping_of d)
  Ok (new_world m copies)

-- an index begins with one copy to five
abbrev pub is_bad_count : ℕ → Bool
is_bad_count copies = (copies == 0) || nat_lt 5 copies

-- `open` of some copies
abbrev pub open_index : ℕ → List ℕ → Step World
open_index copies mapping = if is_bad_count copies then Err bad_count else (new_index copies mapping >>= λ w. Ok (w, opened))

-- a command before the index is open
abbrev pub step_unopened : Command → Step World
step_unopened (opening copies mapping) = open_index copies mapping
step_unopened (write copy id change) = Err not_open
step_unopened (get copy id) = Err not_open
step_unopened (refresh copy) = Err not_open
step_unopened (restart copy) = Err not_open
step_unopened (merge copy) = Err not_open
step_unopened (swap copy) = Err not_open
step_unopened (search copy body) = Err not_open
step_unopened (deliver message) = Err not_open
step_unopened (promote copy) = Err not_open
step_unopened allocate = Err not_open
step_unopened (fail copy) = Err not_open
step_unopened (torn_delivery message kept) = Err not_open
step_unopened (torn_put copy kept id text) = Err not_open
step_unopened (bulk copy ids) = Err not_open
step_unopened (torn_bulk copy kept ids) = Err not_open

abbrev pub in_state : Step World → Step State
in_state (Ok r) = Ok (Some r.0, r.1)
in_state (Err f) = Err f

-- a command, whether or not the index is open
abbrev pub step : State → Command → Step State
step None command = in_state (step_unopened command)
step (Some w) command = in_state (step_open w command)
