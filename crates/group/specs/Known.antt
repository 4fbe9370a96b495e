-- What a client knows of the copies of an index.
use Rattle.std.specs.Prelude.{◌≡◌, ℕ, List, [], ◌∷◌, Option, Some, None, length, slice_get, IfSome}
use Rattle.chronicle.specs.Registered.{PrefixData, prefix}
use Rattle.journal.specs.declared.journal.Deed.{Deed}
use Rattle.node.specs.Entry.{Receipt}
use Rattle.node.specs.Heard.{IsAheadOf}
use Rattle.cell.specs.Points.{PointData}
use Rattle.cluster.specs.Refreshed.{AreRefreshed}
use Rattle.ruled.specs.declared.entry.MasterEntry.{MasterEntry}
use Rattle.ruled.specs.Entries.{IsLeading}
use mathlib.Core.List.{IsPrefix}

-- the first entries of a copy's journal, which a client knows from replies; none at first
abbrev pub Heard : Type 0
Heard = Option (PrefixData Deed)

-- the entries of the copy that the client heard of last; the entries after which it saw a copy last, by a refresh or a search; and the entries of the master's
-- journal
pub record KnownData : Type 0 where
  pub heard : Heard
  pub seen : Heard
  pub past : List MasterEntry

abbrev pub known : Heard → Heard → List MasterEntry → KnownData
known heard seen past = record { heard = heard; seen = seen; past = past }

-- the entries of the master's journal; none if the client knows nothing of the master
abbrev pub past_in : Option (List MasterEntry) → List MasterEntry
past_in None = []
past_in (Some past) = past

-- what a client knows of a copy after it has heard of these entries of its journal; if there are none, it knows what it knew before
abbrev pub heard_by : Heard → ℕ → List Deed → Heard
heard_by before node [] = before
heard_by before node (d ∷ ds) = Some (prefix node (d ∷ ds))

-- what a client knows after a search saw what a copy has at a place of its journal, when the master had this past
abbrev pub seen_at : KnownData → PointData → List MasterEntry → KnownData
seen_at k p past = known k.heard (heard_by k.seen p.node p.deeds) past

-- the copy is the primary after a past of the master that extends the earlier one
pub record IsLedBehind (before : List MasterEntry) (copy : ℕ) (past : List MasterEntry) : Type 0 where
  pub later : IsPrefix before past
  pub leads : IsLeading past copy

-- one of these entries
pub record IsAmong (entries : List Receipt) (r : Receipt) : Type 0 where
  pub place : ℕ
  pub there : slice_get entries place ≡ Some r

-- the client saw this entry, which stands after all that it had heard and seen of the entry's copy
pub record IsSeenBy (heard before : Heard) (r : Receipt) (after : Heard) : Type 0 where
  pub unheard : IfSome heard (λ h. IsAheadOf h r)
  pub unseen : IfSome before (λ h. IsAheadOf h r)
  pub seen : after ≡ Some (prefix r.node r.deeds)

-- the client saw one of these entries, by which the primary was refreshed
pub record IsSeenAmong (heard before : Heard) (primary : ℕ) (entries : List Receipt) (after : Heard) : Type 0 where
  pub entry : Receipt
  pub among : IsAmong entries entry
  pub leads : entry.node ≡ primary
  pub seen : IsSeenBy heard before entry after

-- this many copies in sync were refreshed, each by an entry of its own; the primary is among them, and the client saw its entry
pub record HasRefreshed (before : KnownData) (copies : ℕ) (after : KnownData) : Type 0 where
  pub entries : List Receipt
  pub primary : ℕ
  pub many : length entries ≡ copies
  pub refreshed : AreRefreshed after.past primary entries
  pub later : IsPrefix before.past after.past
  pub seen : IsSeenAmong after.heard before.seen primary entries after.seen
