-- How an index of several copies answers a command.
use Rattle.std.specs.Prelude.{◌≡◌, ◌⊎◌, ℕ, Bool, true, false, List, [], ◌∷◌, map, Option, Some, None, option_map, Result, Ok, Err, slice_get, unwrap_or, All, IfSome}
use Rattle.doc.specs.Id.{Id}
use Rattle.doc.specs.Mapping.{MappingData}
use Rattle.op.specs.declared.message.Msg.{Msg}
use Rattle.replica.specs.declared.fault.CopyFault.{CopyFault}
use Rattle.replica.specs.declared.fault.CopyFault.TheVariants.{VersionConflict as Conflict}
use Rattle.replica.specs.declared.input.Input.{Input}
use Rattle.replica.specs.declared.input.Input.TheVariants.{Write as Client, Bulk}
use Rattle.replica.specs.declared.output.Item.{Item}
use Rattle.replica.specs.declared.output.Output.{Output}
use Rattle.master.specs.declared.fault.MasterFault.{MasterFault}
use Rattle.master.specs.declared.fault.MasterFault.TheVariants as master
use Rattle.master.specs.declared.state.Decision.{Decision}
use Rattle.master.specs.declared.state.Request.TheVariants.{Promote}
use Rattle.node.specs.Reading.{GotData, IsGot as IsRead}
use Rattle.node.specs.Heard.{HasEntry, IsAheadOf, IsNotBefore}
use Rattle.chronicle.specs.Registered.{PrefixData, prefix}
use Rattle.journal.specs.declared.journal.Deed.{Deed}
use Rattle.node.specs.Entry.{Receipt, IsEntry}
use Rattle.cluster.specs.declared.confirmed.Confirmed.{Confirmed}
use Rattle.cluster.specs.declared.confirmed.ConfirmedBulk.{ConfirmedBulk}
use Rattle.cluster.specs.declared.fault.WriteFault.{WriteFault}
use Rattle.cluster.specs.declared.fault.WriteFault.TheVariants as fault
use Rattle.cluster.specs.Bulks.{bulked as items_in, IsBulkConfirmed, IsBulkRefused}
use Rattle.cluster.specs.Confirmed.{IsConfirmed, IsWriteRefused}
use Rattle.ruled.specs.declared.entry.MasterEntry.{MasterEntry}
use Rattle.ruled.specs.Entries.{IsDecided}
use mathlib.Core.List.{IsPrefix}
use Rattle.front.specs.declared.command.Write.{Write}
use Rattle.front.specs.declared.reply.Refusal.{Refusal}
use Rattle.front.specs.declared.reply.Refusal.TheVariants.{VersionConflict, OldTerm, NotInSync, IsPrimary, Gone, Log, NoMemory, Full}
use Rattle.front.specs.declared.reply.ItemReply.{ItemReply}
use Rattle.front.specs.Command.{Command, write, bulk, get, search, count, refresh, promote}
use Rattle.front.specs.Reply.{Reply, bulked, promoted, refused}
use Rattle.shard.specs.Answering.{item_reply_of, refusal_of, reply_of, write_of}
use Rattle.group.specs.Known.{KnownData, HasRefreshed, IsLedBehind, heard_by, known}
use Rattle.group.specs.Searching.{IsCounted, IsFound, IsRefreshed}

-- how many copies an entry counts
abbrev pub counted_in : Result Output CopyFault → ℕ
counted_in (Ok output) = output.members
counted_in (Err fault) = 0

-- the reply that reports what a copy answered, and this number of copies
unfoldable pub told_by : Result Output CopyFault → ℕ → Reply
told_by (Ok output) copies = reply_of copies output.answer
told_by (Err fault) copies = refused (refusal_of fault)

-- if a refresh was wanted after the write, copies were refreshed; if not, none was
pub record IsRefreshedAs (wanted : Bool) (before after : KnownData) : Type 0 where
  pub refreshed : wanted ≡ true → (copies : ℕ) × HasRefreshed before copies after
  pub unrefreshed : wanted ≡ false → (after.seen ≡ before.seen) × (after.past ≡ before.past)

-- the write has an entry in its copy's journal, and an entry there acknowledges it; the reply reports the first, and the number of copies that the second
-- counts
pub record IsWritten (J : Type 0) (before : KnownData) (w : Write) (r : Reply) (after : KnownData) : Type 0 where
  pub confirmed : Confirmed J
  pub later : IfSome before.heard (λ h. IsAheadOf h confirmed.write)
  pub heard : after.heard ≡ Some (prefix confirmed.acknowledgement.node confirmed.acknowledgement.deeds)
  pub acknowledged : IsConfirmed (write_of w) confirmed
  pub told : r ≡ told_by confirmed.write.deed.answer (counted_in confirmed.acknowledgement.deed.answer)
  pub seen : IsRefreshedAs w.refresh before after

-- how many copies the entry at a place counts
abbrev pub counted_at : List Receipt → ℕ → ℕ
counted_at entries place = unwrap_or (option_map (λ r. counted_in r.deed.answer) (slice_get entries place)) 0

-- how many copies the entry at a place counts; 0 if no place is given
abbrev pub count_by : List Receipt → Option ℕ → ℕ
count_by entries None = 0
count_by entries (Some place) = counted_at entries place

-- what the reply says of each write of a bulk, with the number of copies that the entry at its place counts
abbrev pub replies_at : List Receipt → List Item → List ℕ → List ItemReply
replies_at entries [] places = []
replies_at entries (item ∷ items) [] = item_reply_of 0 item ∷ replies_at entries items []
replies_at entries (item ∷ items) (place ∷ places) = item_reply_of (counted_at entries place) item ∷ replies_at entries items places

-- the reply says what became of each write of a bulk, and for a write that was kept how many copies its acknowledgement counts
pub record IsBulkTold {J : Type 0} (confirmed : ConfirmedBulk J) (r : Reply) : Type 0 where
  pub items : List Item
  pub kept : items_in confirmed.bulk.deed.answer ≡ Some items
  pub told : r ≡ bulked (replies_at confirmed.acknowledgements.items items confirmed.places.items)

-- the bulk's entry is among these entries of a journal, and so is each entry that acknowledges one of its writes
pub record HasBulk {J : Type 0} (confirmed : ConfirmedBulk J) (known : PrefixData Deed) : Type 0 where
  pub bulk : HasEntry known confirmed.bulk
  pub each : All (HasEntry known) confirmed.acknowledgements.items

-- the bulk has an entry in its copy's journal, each of its writes that was kept has an entry that acknowledges it, and the reply reports them
pub record IsBulkWritten (J : Type 0) (before : KnownData) (ws : List Write) (r : Reply) (after : KnownData) : Type 0 where
  pub confirmed : ConfirmedBulk J
  pub later : IfSome before.heard (λ h. IsAheadOf h confirmed.bulk)
  pub heard : PrefixData Deed
  pub has : HasBulk confirmed heard
  pub now : after ≡ known (Some heard) before.seen before.past
  pub acknowledged : IsBulkConfirmed (map write_of ws) confirmed
  pub told : IsBulkTold confirmed r

-- the reply says what the primary has for the id, after a journal that isn't shorter than what the client knew of it
pub record IsGot (before : KnownData) (id : Id) (r : Reply) (after : KnownData) : Type 0 where
  pub got : GotData
  pub is_got : IsRead got
  pub id_is : got.id ≡ id
  pub later : IfSome before.heard (λ h. IsNotBefore h got)
  pub told : r ≡ reply_of 0 got.answer
  pub led : IsLedBehind before.past got.node after.past
  pub now : after ≡ known (heard_by before.heard got.node got.deeds) before.seen after.past

-- the master's last decision makes the copy the primary, and the reply names the term in which the copy is the primary
pub record IsMadePrimary (copy : ℕ) (r : Reply) (past : List MasterEntry) : Type 0 where
  pub decision : Decision
  pub decided : IsDecided (Promote copy) decision past
  pub message : Msg
  pub sent : decision.sent ≡ Some message
  pub told : r ≡ promoted copy message.term

-- the master's last decision makes the copy the primary, in a past that extends what the client knew of it
pub record IsPromoted (before : KnownData) (copy : ℕ) (r : Reply) (after : KnownData) : Type 0 where
  pub made : IsMadePrimary copy r after.past
  pub later : IsPrefix before.past after.past
  pub now : after ≡ known before.heard before.seen after.past

-- the refusal that names the master's fault
abbrev pub master_refusal : MasterFault → Refusal
master_refusal master.OldTerm = OldTerm
master_refusal master.NotInSync = NotInSync
master_refusal master.IsPrimary = IsPrimary
master_refusal master.Gone = Gone
master_refusal (master.Log f) = Log
master_refusal master.NoMemory = NoMemory
master_refusal master.Full = Full

-- the command was carried out
abbrev pub IsDone : Type 0 → MappingData → KnownData → Command → Reply → KnownData → Type 0
IsDone J m before (write w) r after = IsWritten J before w r after
IsDone J m before (bulk ws) r after = IsBulkWritten J before ws r after
IsDone J m before (get id) r after = IsGot before id r after
IsDone J m before (search q page) r after = IsFound m before q page r after
IsDone J m before (count q) r after = IsCounted m before q r after
IsDone J m before refresh r after = IsRefreshed before r after
IsDone J m before (promote copy) r after = IsPromoted before copy r after

-- a copy has an entry by which it refused the input: its condition isn't met, or what it creates is there
pub record HasConflict (input : Input) : Type 0 where
  pub entry : Receipt
  pub asked : entry.deed.input ≡ input
  pub stands : IsEntry entry
  pub answer : entry.deed.answer ≡ Err Conflict

-- only a write or a bulk may be in conflict
abbrev pub MayConflict : Command → Type 0
MayConflict (write w) = HasConflict (Client (write_of w))
MayConflict (bulk ws) = HasConflict (Bulk (map write_of ws))
MayConflict (get id) = ⊥
MayConflict (search q page) = ⊥
MayConflict (count q) = ⊥
MayConflict refresh = ⊥
MayConflict (promote copy) = ⊥

-- the command was refused; for a conflict only by the entry of a copy that refused it
pub record IsRefused (c : Command) (r : Reply) : Type 0 where
  pub refusal : Refusal
  pub told : r ≡ refused refusal
  pub conflict : refusal ≡ VersionConflict → MayConflict c

-- the fault is none of a write's or a bulk's own
abbrev pub IsOfCluster : {J : Type 0} → WriteFault J → Type 0
IsOfCluster (fault.NoPrimary r) = ⊥
IsOfCluster (fault.Refused r) = ⊥
IsOfCluster (fault.Lost r last) = ⊥
IsOfCluster (fault.Unconfirmed r) = ⊥
IsOfCluster (fault.Cluster f) = Unit {0}

-- what the copies' fault shows of the command
abbrev pub IsFaultOf : {J : Type 0} → Command → WriteFault J → Type 0
IsFaultOf (write w) f = IsWriteRefused (write_of w) f
IsFaultOf (bulk ws) f = IsBulkRefused (map write_of ws) f
IsFaultOf (get id) f = IsOfCluster f
IsFaultOf (search q page) f = IsOfCluster f
IsFaultOf (count q) f = IsOfCluster f
IsFaultOf refresh f = IsOfCluster f
IsFaultOf (promote copy) f = IsOfCluster f

-- the fault is a copy's refusal: the write's condition isn't met, or what it creates is there
abbrev pub IsConflict : {J : Type 0} → WriteFault J → Type 0
IsConflict (fault.NoPrimary r) = ⊥
IsConflict (fault.Refused r) = r.deed.answer ≡ Err Conflict
IsConflict (fault.Lost r last) = ⊥
IsConflict (fault.Unconfirmed r) = ⊥
IsConflict (fault.Cluster f) = ⊥

-- a reply of copies with one mapping, whose journals are those of one registry; and what the client knows then
abbrev pub IsTold : Type 0 → MappingData → KnownData → Command → Reply → KnownData → Type 0
IsTold J m before c r after = IsDone J m before c r after ⊎ (IsRefused c r × (after ≡ before))
