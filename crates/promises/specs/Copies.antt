-- What a client of an index of several copies may rely on. The client knows the first entries of the journal of the copy that it heard of last, and of the
-- master's journal.
use Rattle.std.specs.Prelude.{◌≡◌, ◌++◌, ℕ, Bool, true, false, List, [], ◌∷◌, Option, Some, IfSome}
use mathlib.Core.List.{IsPrefix}
use Rattle.chronicle.specs.Registered.{PrefixData}
use Rattle.doc.specs.Id.{Id}
use Rattle.doc.specs.Mapping.{MappingData}
use Rattle.op.specs.declared.operation.Op as one
use Rattle.op.specs.declared.message.Content.{Content}
use Rattle.op.specs.declared.message.Content.TheVariants.{Op, Ack, Promoted, Resync, Track, Recover, Synced, Fail, Removed}
use Rattle.op.specs.Operations.{last_on}
use Rattle.op.specs.Documents.{document_of}
use Rattle.replica.specs.declared.input.Input.{Input}
use Rattle.replica.specs.declared.input.Input.TheVariants as input
use Rattle.replica.specs.Copy.{Copy, operations}
use Rattle.replica.specs.Step.{get_answer}
use Rattle.journal.specs.declared.journal.Deed.{Deed}
use Rattle.journal.specs.Journal.{IsLegal, after, open_at}
use Rattle.front.specs.declared.command.Write.{Write}
use Rattle.front.specs.declared.reply.Found.{Found}
use Rattle.front.specs.declared.reply.Wrote.{Wrote}
use Rattle.front.specs.Command.{Command, write, bulk, get, search, count, refresh, promote}
use Rattle.front.specs.Reply.{Reply, got, promoted}
use Rattle.shard.specs.Answering.{reply_of}
use Rattle.group.specs.Group.{IsTold}
use Rattle.group.specs.Known.{Heard, IsLedBehind, KnownData}
use Rattle.master.specs.declared.state.Decision.{Decision}
use Rattle.master.specs.declared.state.Request.TheVariants as request
use Rattle.ruled.specs.declared.entry.MasterEntry.{MasterEntry}
use Rattle.ruled.specs.Entries.{IsDecided}
use Rattle.promises.specs.Promises.{HasWrite, IsAcknowledged, IsOver, is_refused, is_search}

-- whether another primary resets what the copy has, by a message with this content
abbrev pub resets : Content → Bool
resets (Resync g tail) = true
resets (Recover all) = true
resets (Op g o) = false
resets (Ack seq below) = false
resets (Promoted set) = false
resets (Track r) = false
resets (Synced r) = false
resets (Fail r) = false
resets (Removed r) = false

abbrev pub is_reset : Input → Bool
is_reset (input.Take m) = resets m.content
is_reset (input.Write w) = false
is_reset (input.Bulk ws) = false
is_reset (input.Report r) = false
is_reset input.Refresh = false
is_reset (input.Get id) = false
is_reset input.Restart = false

-- none of these entries resets what the copy has
abbrev pub AreWithoutReset : List Deed → Type 0
AreWithoutReset [] = Unit {0}
AreWithoutReset (d ∷ ds) = (is_reset d.input ≡ false) × AreWithoutReset ds

-- the reply says what the copy with this number has for the document's id after these entries of a journal, which leave it these operations
pub record IsReadAfter (id : Id) (r : Reply) (node : ℕ) (deeds : List Deed) (os : List one.Op) : Type 0 where
  pub opening : Copy
  pub legal : IsLegal (open_at opening) 0 deeds
  pub node_is : opening.id ≡ node
  pub left : os ≡ operations (after (open_at opening) 0 deeds).copy
  pub told : r ≡ reply_of 0 (get_answer (document_of (last_on os id)))

-- what a copy has after these entries, which leave it these operations. If it's the copy that confirmed the write, the entries extend those that the client
-- knew then; and if no entry after that of the write is a reset, the copy has the write or a newer one
pub record HasFrom (acked : PrefixData Deed) (id : Id) (seq node : ℕ) (deeds : List Deed) (os : List one.Op) : Type 0 where
  pub goes_on : node ≡ acked.number → IsPrefix acked.entries deeds
  pub upto : List Deed
  pub known : IsPrefix upto acked.entries
  pub has : node ≡ acked.number → (more : List Deed) → deeds ≡ upto ++ more → AreWithoutReset more → HasWrite id seq os

-- the reply says what a copy has for the id, and `HasFrom` states what that copy has
pub record IsFoundFrom (acked : PrefixData Deed) (id : Id) (seq : ℕ) (r : Reply) : Type 0 where
  pub node : ℕ
  pub deeds : List Deed
  pub os : List one.Op
  pub read : IsReadAfter id r node deeds os
  pub from : HasFrom acked id seq node deeds os

-- the reply says what a search finds with this mapping in the copy with this number after these entries of a journal, which leave it these operations
pub record IsSoughtAfter (m : MappingData) (c : Command) (r : Reply) (node : ℕ) (deeds : List Deed) (os : List one.Op) : Type 0 where
  pub opening : Copy
  pub legal : IsLegal (open_at opening) 0 deeds
  pub node_is : opening.id ≡ node
  pub left : os ≡ operations (after (open_at opening) 0 deeds).copy
  pub over : IsOver m os c r

-- the reply says what a search finds in a copy, and `HasFrom` states what that copy has
pub record IsSeenFrom (m : MappingData) (acked : PrefixData Deed) (id : Id) (seq : ℕ) (c : Command) (r : Reply) : Type 0 where
  pub node : ℕ
  pub deeds : List Deed
  pub os : List one.Op
  pub sought : IsSoughtAfter m c r node deeds os
  pub from : HasFrom acked id seq node deeds os

-- the client saw a refresh of a copy; if it heard of that copy last, the refresh comes after all that it heard
pub record IsRefreshSeen (after : KnownData) : Type 0 where
  pub seen : PrefixData Deed
  pub is : after.seen ≡ Some seen
  pub behind : IfSome after.heard (λ h. seen.number ≡ h.number → IsPrefix h.entries seen.entries)

-- whether a command refreshes copies
abbrev pub refreshes : Command → Bool
refreshes refresh = true
refreshes (write w) = w.refresh
refreshes (bulk ws) = false
refreshes (get id) = false
refreshes (search q page) = false
refreshes (count q) = false
refreshes (promote copy) = false

-- a client knows all these entries, of this copy
pub record Knows (p : PrefixData Deed) (heard : Heard) : Type 0 where
  pub known : PrefixData Deed
  pub is : heard ≡ Some known
  pub copy : known.number ≡ p.number
  pub entries : IsPrefix p.entries known.entries

-- whether a command asks for documents
abbrev pub reads : Command → Bool
reads (get id) = true
reads (search q page) = true
reads (count q) = true
reads (write w) = false
reads (bulk ws) = false
reads refresh = false
reads (promote copy) = false

-- the reply answers the command from what the copy with this number has after these entries of a journal, which leave it these operations
abbrev pub IsReplyAfter : MappingData → Command → Reply → ℕ → List Deed → List one.Op → Type 0
IsReplyAfter m (get id) r node deeds os = IsReadAfter id r node deeds os
IsReplyAfter m (search q page) r node deeds os = IsSoughtAfter m (search q page) r node deeds os
IsReplyAfter m (count q) r node deeds os = IsSoughtAfter m (count q) r node deeds os
IsReplyAfter m (write w) r node deeds os = ⊥
IsReplyAfter m (bulk ws) r node deeds os = ⊥
IsReplyAfter m refresh r node deeds os = ⊥
IsReplyAfter m (promote copy) r node deeds os = ⊥

-- the reply answers the command from what the primary has: that copy is the primary after a past of the master that extends this one
pub record IsOfPrimary (m : MappingData) (past : List MasterEntry) (c : Command) (r : Reply) : Type 0 where
  pub node : ℕ
  pub deeds : List Deed
  pub os : List one.Op
  pub reply : IsReplyAfter m c r node deeds os
  pub now : List MasterEntry
  pub led : IsLedBehind past node now

-- the last of these entries of the master's journal is the decision that makes the copy the primary
pub record IsPromotion (copy : ℕ) (past : List MasterEntry) : Type 0 where
  pub decision : Decision
  pub decided : IsDecided (request.Promote copy) decision past

-- ---- the promises

-- a client that knows that a copy confirmed a write, and gets the id from that copy, finds the write or a newer one, unless the copy was reset since
abbrev pub WritesAreFoundAtCopies : Type 0 → MappingData → Type 0
WritesAreFoundAtCopies J m =
    (w : Write) (x : Wrote) (asked : Command) (reply : Reply) (o : Option Found) (acked : PrefixData Deed) (before after later new : KnownData)
    → IsAcknowledged w x asked reply → IsTold J m before asked reply after → after.heard ≡ Some acked → Knows acked later.heard → IsTold J m later (get w.id) (got o) new → IsFoundFrom acked w.id x.seq (got o)

-- a client knows that a copy confirmed a write, and has seen that copy since, by a refresh or a search. Its searches of that copy look at documents with the
-- write or a newer one, unless the copy was reset since
abbrev pub WritesAreSeenAtCopies : Type 0 → MappingData → Type 0
WritesAreSeenAtCopies J m =
    (w : Write) (x : Wrote) (asked : Command) (reply : Reply) (c : Command) (r : Reply) (acked : PrefixData Deed) (before after later new : KnownData)
    → IsAcknowledged w x asked reply → IsTold J m before asked reply after → after.heard ≡ Some acked → Knows acked later.seen → IsTold J m later c r new
    → is_search c ≡ true → is_refused r ≡ false → IsSeenFrom m acked w.id x.seq c r

-- a client that knows from a reply that copies were refreshed, alone or after a write, has seen the primary's refresh
abbrev pub RefreshesAreSeenAtCopies : Type 0 → MappingData → Type 0
RefreshesAreSeenAtCopies J m =
    (c : Command) (r : Reply) (before after : KnownData) → IsTold J m before c r after → refreshes c ≡ true → is_refused r ≡ false → IsRefreshSeen after

-- what a client knows of a copy from one reply is the beginning of what it knows of it from the next
abbrev pub NeverBackAtCopies : Type 0 → MappingData → Type 0
NeverBackAtCopies J m =
    (c : Command) (r : Reply) (before after : KnownData) (p q : PrefixData Deed) → IsTold J m before c r after → before.heard ≡ Some p → after.heard ≡ Some q → q.number ≡ p.number → IsPrefix p.entries q.entries

-- what a client saw of a copy by one reply is the beginning of what it saw of it by the next
abbrev pub SearchesNeverBackAtCopies : Type 0 → MappingData → Type 0
SearchesNeverBackAtCopies J m =
    (c : Command) (r : Reply) (before after : KnownData) (p q : PrefixData Deed) → IsTold J m before c r after → before.seen ≡ Some p → after.seen ≡ Some q → q.number ≡ p.number → IsPrefix p.entries q.entries

-- what a client knows of the master's journal from one reply is the beginning of what it knows of it from the next
abbrev pub MasterNeverBack : Type 0 → MappingData → Type 0
MasterNeverBack J m = (c : Command) (r : Reply) (before after : KnownData) → IsTold J m before c r after → IsPrefix before.past after.past

-- a client learns from a reply that the master made a copy the primary. Then its later replies about documents come from the copy that is the
-- primary after entries of the master's journal that extend those up to that decision
abbrev pub PromotionsAreFollowed : Type 0 → MappingData → Type 0
PromotionsAreFollowed J m =
    (copy term : ℕ) (c : Command) (r : Reply) (before after later new : KnownData)
    → IsTold J m before (promote copy) (promoted copy term) after → IsPrefix after.past later.past → IsTold J m later c r new → reads c ≡ true → is_refused r ≡ false
    → IsPromotion copy after.past × IsOfPrimary m after.past c r
