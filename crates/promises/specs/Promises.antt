-- What a client of an index of one copy may rely on. The client starts from a place of the index's history, and each reply brings it to a place that isn't
-- before that.
use Rattle.std.specs.Prelude.{◌≡◌, ◌≤◌, ℕ, Bool, true, false, List, Option, Some, None, length, slice_get}
use Rattle.std.specs.List.{flat_map}
use mathlib.Core.List.{IsPrefix}
use Rattle.doc.specs.Id.{Id}
use Rattle.doc.specs.Mapping.{MappingData}
use Rattle.op.specs.declared.operation.Op.{Op}
use Rattle.op.specs.Operations.{last_on}
use Rattle.op.specs.Documents.{document_of, documents}
use Rattle.op.specs.Records.{operations, shown}
use Rattle.engine.specs.Answer.{answer, found}
use Rattle.replica.specs.Step.{get_answer}
use Rattle.front.specs.declared.command.Write.{Write}
use Rattle.front.specs.declared.reply.Found.{Found}
use Rattle.front.specs.declared.reply.Wrote.{Wrote}
use Rattle.front.specs.declared.reply.ItemReply.{ItemReply}
use Rattle.front.specs.declared.reply.ItemReply.TheVariants as item
use Rattle.wire.specs.Requests.{Standing}
use Rattle.clients.specs.Conversation.{Told}
use Rattle.front.specs.Calls.{Calls}
use Rattle.front.specs.Command.{Command, write, bulk, get, search, count, refresh, promote}
use Rattle.front.specs.Rule.{Rule, work_by}
use Rattle.front.specs.Work.{commands}
use Rattle.front.specs.Reply.{Reply, wrote, bulked, got, hits, counted, refreshed, promoted, refused}
use Rattle.shard.specs.Answering.{hits_of, reply_of}
use Rattle.shard.specs.History.{Stand, EndsIn, IsTold}

-- the last operation on the id has this number, or a greater one
pub record HasWrite (id : Id) (seq : ℕ) (os : List Op) : Type 0 where
  pub last : Op
  pub is_last : last_on os id ≡ Some last
  pub not_older : seq ≤ last.seq

-- the copy at the end of this history has the write, and the reply to a get of the id has the document that the last operation on the id left there
pub record IsFoundAt (id : Id) (seq : ℕ) (r : Reply) (known : List Stand) : Type 0 where
  pub at : Stand
  pub ends : EndsIn at known
  pub has : HasWrite id seq (operations at.copy.copy.records)
  pub told : r ≡ reply_of 0 (get_answer (document_of (last_on (operations at.copy.copy.records) id)))

-- the reply to a search or a count over the documents of operations
abbrev pub IsOver : MappingData → List Op → Command → Reply → Type 0
IsOver mapping os (search q page) r = r ≡ hits_of (answer mapping os q page)
IsOver mapping os (count q) r = r ≡ counted (length (found (record { mapping = mapping; documents = documents os }) q))
IsOver mapping os (write w) r = ⊥
IsOver mapping os (bulk ws) r = ⊥
IsOver mapping os (get id) r = ⊥
IsOver mapping os refresh r = ⊥
IsOver mapping os (promote copy) r = ⊥

-- the copy at the end of this history shows the write to searches, and the reply is over what the copy shows
pub record IsSeenAt (id : Id) (seq : ℕ) (c : Command) (r : Reply) (known : List Stand) : Type 0 where
  pub at : Stand
  pub ends : EndsIn at known
  pub has : HasWrite id seq (shown at.copy.copy.records at.copy.copy.point)
  pub over : IsOver at.copy.copy.mapping (shown at.copy.copy.records at.copy.copy.point) c r

-- whether a command is a search or a count
abbrev pub is_search : Command → Bool
is_search (search q page) = true
is_search (count q) = true
is_search (write w) = false
is_search (bulk ws) = false
is_search (get id) = false
is_search refresh = false
is_search (promote copy) = false

abbrev pub is_refused : Reply → Bool
is_refused (refused f) = true
is_refused (wrote w) = false
is_refused (bulked items) = false
is_refused (got d) = false
is_refused (hits total page) = false
is_refused (counted n) = false
is_refused (refreshed n) = false
is_refused (promoted copy term) = false

-- ---- the promises

-- a reply says that a write is done: the write's own reply, or the reply to a bulk, at the place that the write has in the bulk
pub data IsAcknowledged (w : Write) (x : Wrote) : Command → Reply → Type 0 where
  alone : IsAcknowledged w x (write w) (wrote x)
  among : (ws : List Write) (items : List ItemReply) (place : ℕ) → slice_get ws place ≡ Some w → slice_get items place ≡ Some (item.Wrote x) → IsAcknowledged w x (bulk ws) (bulked items)

-- a client that has gone on from the reply to a write, and gets the id, finds the write or a newer one
abbrev pub WritesAreFound : Type 0
WritesAreFound =
    (w : Write) (x : Wrote) (asked : Command) (reply : Reply) (o : Option Found) (old acked later new : List Stand)
    → IsAcknowledged w x asked reply → IsTold old asked reply acked → IsPrefix acked later → IsTold later (get w.id) (got o) new → IsFoundAt w.id x.seq (got o) new

-- if the write asked for a refresh, searches of a client that has gone on from its reply see it
abbrev pub WritesAreSeen : Type 0
WritesAreSeen =
    (w : Write) (x : Wrote) (c : Command) (r : Reply) (old acked later new : List Stand)
    → IsTold old (write w) (wrote x) acked → w.refresh ≡ true → IsPrefix acked later → IsTold later c r new → is_search c ≡ true → is_refused r ≡ false → IsSeenAt w.id x.seq c r new

-- searches of a client that has gone on from the reply to a write, and then from the reply to a refresh, see the write
abbrev pub RefreshedWritesAreSeen : Type 0
RefreshedWritesAreSeen =
    (w : Write) (x : Wrote) (asked : Command) (reply : Reply) (n : ℕ) (c : Command) (r : Reply) (old acked before shown later new : List Stand)
    → IsAcknowledged w x asked reply → IsTold old asked reply acked → IsPrefix acked before → IsTold before refresh (refreshed n) shown → IsPrefix shown later → IsTold later c r new
    → is_search c ≡ true → is_refused r ≡ false → IsSeenAt w.id x.seq c r new

-- any commands of a client, one after another: what it knew at first is the beginning of what it knows at last
abbrev pub NeverBack : Type 0
NeverBack = (old new : List Stand) (commands : List Command) (replies : List Reply) → Calls IsTold old commands replies new → IsPrefix old new

-- the commands of a connection's request, by a rule of answering
abbrev pub commands_of : Rule → List ℕ → MappingData → Standing → List Command
commands_of rule index mapping q = commands (work_by rule index mapping q)

-- if each reply of a service is one that `IsTold` allows, the commands of all requests of a connection are answered one after another, along one history
abbrev pub GoesOnAlong : {S : Type 0} → (S → Command → Reply → S → Type 0) → (S → List Stand) → Type 0
GoesOnAlong {S} answers knows =
    ((s : S) (c : Command) (r : Reply) (t : S) → answers s c r t → IsTold (knows s) c r (knows t))
    → (rule : Rule) (index : List ℕ) (mapping : MappingData) (requests : List Standing) (out : List ℕ) (last : List Stand) → Told rule answers knows index mapping None requests out (Some last)
    → (first : List Stand) × (replies : List Reply) × Calls IsTold first (flat_map (commands_of rule index mapping) requests) replies last
