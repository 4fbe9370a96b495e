-- How an index of one copy answers a command, and what its copy is afterwards.
use Rattle.std.specs.Prelude.{◌≡◌, ◌≢◌, ◌⊎◌, ◌==◌, ◌&&◌, nat_lt, nat_le, if◌then◌else◌, ℕ, Bool, true, false, List, map, length, Option, Some, None, option_map, Result, Ok, Err}
use Rattle.serde_json.specs.Data.{Data}
use Rattle.doc.specs.Fault as doc
use Rattle.doc.specs.Id.{Id}
use Rattle.doc.specs.Mapping.{mapping_of}
use Rattle.doc.specs.Outcome.{◌>>=◌}
use Rattle.op.specs.Documents.{documents}
use Rattle.op.specs.Records.{shown}
use Rattle.engine.specs.Answer as engine
use Rattle.engine.specs.Answer.{answer, found}
use Rattle.replica.specs.declared.fault.CopyFault.{CopyFault}
use Rattle.replica.specs.declared.fault.CopyFault.TheVariants as fault
use Rattle.replica.specs.declared.input.Condition as kept
use Rattle.replica.specs.declared.input.Write as kept_write
use Rattle.replica.specs.declared.input.Input.{Input}
use Rattle.replica.specs.declared.input.Input.TheVariants as input
use Rattle.replica.specs.declared.input.OpType.{OpType}
use Rattle.replica.specs.declared.input.OpType.TheVariants as kind
use Rattle.replica.specs.declared.output.Answer.{Answer}
use Rattle.replica.specs.declared.output.Answer.TheVariants.{Wrote, Bulked, Taken, Stale, Repeated, Reported, Found, Missing, Point}
use Rattle.replica.specs.declared.output.Written as kept_written
use Rattle.replica.specs.declared.output.Item.{Item}
use Rattle.replica.specs.declared.output.Item.TheVariants as kept_item
use Rattle.replica.specs.declared.output.Outcome as kept_outcome
use Rattle.replica.specs.declared.output.Outcome.TheVariants as outcome
use Rattle.replica.specs.Copy.{Copy, begun}
use Rattle.replica.specs.Logged.{Logged, IsFailed}
use Rattle.replica.specs.Step.{Step, copy_step, members_of}
use Rattle.front.specs.declared.command.Change.{Change}
use Rattle.front.specs.declared.command.Change.TheVariants as change
use Rattle.front.specs.declared.command.Condition.{Condition}
use Rattle.front.specs.declared.command.Write.{Write}
use Rattle.front.specs.declared.reply.Wrote as front_wrote
use Rattle.front.specs.declared.reply.Hit.{Hit}
use Rattle.front.specs.declared.reply.ItemReply.{ItemReply}
use Rattle.front.specs.declared.reply.ItemReply.TheVariants as item
use Rattle.front.specs.declared.reply.Outcome.{Outcome}
use Rattle.front.specs.declared.reply.Outcome.TheVariants.{Created, Updated, Deleted, NotFound}
use Rattle.front.specs.declared.reply.Refusal.{Refusal}
use Rattle.front.specs.declared.reply.Refusal.TheVariants.{NotPrimary, VersionConflict, WindowFull, OldTerm, NotSynced, BeyondWindow, Mismatch, Closed, Log, NoMemory, WrongAddress, Exhausted, IsPrimary, NotInSync}
use Rattle.front.specs.Command.{Command, write, bulk, get, search, count, refresh, promote}
use Rattle.front.specs.Reply.{Reply, wrote, bulked, got, hits, counted, refreshed, refused}

-- the copy of a new index with the mapping that a JSON value states
abbrev pub begun_under : Data → Result Copy doc.Fault
begun_under d = mapping_of d >>= λ m. Ok (begun 1 1 m)

abbrev pub condition_of : Condition → kept.Condition
condition_of c = record { seq = c.seq; term = c.term }

-- what a write does; the creation of a document has no condition
abbrev pub kind_of : Change → Option Condition → OpType
kind_of (change.Index d) condition = kind.Index d.source (option_map condition_of condition)
kind_of (change.Create d) condition = kind.Create d.source
kind_of change.Delete condition = kind.Delete (option_map condition_of condition)

abbrev pub write_of : Write → kept_write.Write
write_of w = record { id = w.id; kind = kind_of w.change w.condition }

abbrev pub input_of : Write → Input
input_of w = input.Write (write_of w)

abbrev pub bulk_of : List Write → Input
bulk_of ws = input.Bulk (map write_of ws)

-- whether n writes are a bulk
abbrev pub is_bulk : ℕ → Bool
is_bulk n = nat_lt 0 n && nat_le n 1024

abbrev pub replied_outcome : kept_outcome.Outcome → Outcome
replied_outcome outcome.Created = Created
replied_outcome outcome.Updated = Updated
replied_outcome outcome.Deleted = Deleted
replied_outcome outcome.NotFound = NotFound

-- a write that was kept; this many copies have to acknowledge it
abbrev pub wrote_of : ℕ → kept_written.Written → front_wrote.Wrote
wrote_of members w = record { seq = w.seq; term = w.term; version = w.version; outcome = replied_outcome w.outcome; copies = members }

-- the reply that reports a copy's answer to anything but a bulk; a refresh counts one copy
abbrev pub reply_of : ℕ → Answer → Reply
reply_of members (Wrote w) = wrote (wrote_of members w)
reply_of members (Bulked items) = refused Mismatch
reply_of members (Found d) = got (Some (record { seq = d.seq; term = d.term; version = d.version; source = d.source }))
reply_of members Missing = got None
reply_of members (Point n) = refreshed 1
reply_of members Taken = refused Mismatch
reply_of members Stale = refused Mismatch
reply_of members Repeated = refused Mismatch
reply_of members Reported = refused Mismatch

abbrev pub refusal_of : CopyFault → Refusal
refusal_of fault.NotPrimary = NotPrimary
refusal_of fault.VersionConflict = VersionConflict
refusal_of fault.WindowFull = WindowFull
refusal_of fault.OldTerm = OldTerm
refusal_of fault.NotSynced = NotSynced
refusal_of fault.BeyondWindow = BeyondWindow
refusal_of fault.Mismatch = Mismatch
refusal_of fault.Closed = Closed
refusal_of (fault.Log f) = Log
refusal_of fault.NoMemory = NoMemory
refusal_of fault.WrongAddress = WrongAddress
refusal_of fault.Exhausted = Exhausted

-- what became of a write of a bulk
abbrev pub item_reply_of : ℕ → Item → ItemReply
item_reply_of members (kept_item.Wrote w) = item.Wrote (wrote_of members w)
item_reply_of members (kept_item.Refused f) = item.Refused (refusal_of f)

-- the reply that reports a copy's answer to a bulk
abbrev pub bulk_reply_of : ℕ → Answer → Reply
bulk_reply_of members (Bulked items) = bulked (map (item_reply_of members) items)
bulk_reply_of members (Wrote w) = refused Mismatch
bulk_reply_of members (Found d) = refused Mismatch
bulk_reply_of members Missing = refused Mismatch
bulk_reply_of members (Point n) = refused Mismatch
bulk_reply_of members Taken = refused Mismatch
bulk_reply_of members Stale = refused Mismatch
bulk_reply_of members Repeated = refused Mismatch
bulk_reply_of members Reported = refused Mismatch

abbrev pub hit_of : Id × List ℕ → Hit
hit_of h = record { id = h.0; source = h.1 }

abbrev pub hits_of : engine.Answer → Reply
hits_of a = hits a.total (map hit_of a.hits)

-- a copy after a command, with the reply, or why the copy refuses it
abbrev pub Asked : Type 0
Asked = Result (Copy × Reply) CopyFault

-- one step of the copy
abbrev pub taken : Copy → Input → Asked
taken c i = copy_step c i >>= λ s. Ok (s.copy, reply_of (members_of s.copy.role) s.answer)

-- the refresh after a write, if the write asks for one
abbrev pub refreshed_after : Bool → Copy → Result Copy CopyFault
refreshed_after false c = Ok c
refreshed_after true c = copy_step c input.Refresh >>= λ s. Ok s.copy

-- a write, and the refresh after it
abbrev pub written : Copy → Write → Asked
written c w = copy_step c (input_of w) >>= λ s. refreshed_after w.refresh s.copy >>= λ d. Ok (d, reply_of (members_of s.copy.role) s.answer)

-- the writes of a bulk; fewer than one or more than 1,024 are no bulk
abbrev pub bulk_written : Copy → List Write → Asked
bulk_written c ws = if is_bulk (length ws) then (copy_step c (bulk_of ws) >>= λ s. Ok (s.copy, bulk_reply_of (members_of s.copy.role) s.answer)) else Ok (c, refused Mismatch)

-- why an only copy isn't promoted: it leads already, and there is no other copy
abbrev pub promotion_refusal : ℕ → ℕ → Refusal
promotion_refusal own copy = if copy == own then IsPrimary else NotInSync

-- a search and a count see the copy's records up to its refresh point
abbrev pub asked : Copy → Command → Asked
asked c (write w) = written c w
asked c (bulk ws) = bulk_written c ws
asked c (get id) = taken c (input.Get id)
asked c (search q page) = Ok (c, hits_of (answer c.mapping (shown c.records c.point) q page))
asked c (count q) = Ok (c, counted (length (found (record { mapping = c.mapping; documents = documents (shown c.records c.point) }) q)))
asked c refresh = taken c input.Refresh
asked c (promote copy) = Ok (c, refused (promotion_refusal c.id copy))

-- a refusal leaves the copy as it was
abbrev pub told : Copy → Asked → Copy × Reply
told c (Ok x) = x
told c (Err f) = (c, refused (refusal_of f))

-- the copy after a step; as it was if the step was refused
abbrev pub left_by : Copy → Step → Copy
left_by c (Ok s) = s.copy
left_by c (Err f) = c

-- nothing has changed, or the write stands without the refresh after it, or the writes of a bulk stand without a reply
abbrev pub IsPartOf : Command → Copy → Copy → Type 0
IsPartOf (write w) c d = (d ≡ c) ⊎ (d ≡ left_by c (copy_step c (input_of w)))
IsPartOf (bulk ws) c d = (d ≡ c) ⊎ (d ≡ left_by c (copy_step c (bulk_of ws)))
IsPartOf (get id) c d = d ≡ c
IsPartOf (search q page) c d = d ≡ c
IsPartOf (count q) c d = d ≡ c
IsPartOf refresh c d = d ≡ c
IsPartOf (promote copy) c d = d ≡ c

-- whether the reply says that memory ran out, or that the copy's log failed
abbrev pub is_failure : Reply → Bool
is_failure (refused NoMemory) = true
is_failure (refused Log) = true
is_failure r = false

-- the log failed in the step of a write or of a bulk; no other command uses the log
pub record HasFailed (s : Logged) (i : Input) (t : Logged) : Type 0 where
  pub fault : CopyFault
  pub failed : IsFailed s t (copy_step s.copy i) fault

abbrev pub HasFailedIn : Command → Logged → Logged → Type 0
HasFailedIn (write w) s t = HasFailed s (input_of w) t
HasFailedIn (bulk ws) s t = HasFailed s (bulk_of ws) t
HasFailedIn (get id) s t = ⊥
HasFailedIn (search q page) s t = ⊥
HasFailedIn (count q) s t = ⊥
HasFailedIn refresh s t = ⊥
HasFailedIn (promote copy) s t = ⊥

-- the reply to a command, and the copy after it
pub record IsAnswered (s : Logged) (c : Command) (r : Reply) (t : Logged) : Type 0 where
  pub closed : s.closed ≡ true → (r ≡ refused Closed) × (t ≡ s)
  pub exact : s.closed ≡ false → is_failure r ≡ false → (t.copy, r) ≡ told s.copy (asked s.copy c)
  pub memory : s.closed ≡ false → r ≡ refused NoMemory → IsPartOf c s.copy t.copy
  pub stays : s.closed ≡ false → r ≢ refused Log → t.closed ≡ false
  pub failed : s.closed ≡ false → r ≡ refused Log → HasFailedIn c s t
