-- What became of the writes of a bulk, one more each.
use Rattle.std.proofs.Common.{◌≡◌, ℕ, suc, List, [], ◌∷◌, ◌++◌, length, map, refl, ap, subst}
use Rattle.std.specs.Prelude.{slice_get, Some, All, IfSome}
use Rattle.chronicle.specs.Registered.{PrefixData}
use Rattle.journal.specs.declared.journal.Deed.{Deed}
use Rattle.replica.specs.declared.output.Item.{Item}
use Rattle.replica.specs.declared.input.Write as taken
use Rattle.node.specs.Entry.{Receipt}
use Rattle.node.specs.Heard.{HasEntry, IsAheadOf}
use Rattle.cluster.specs.Bulks.{IsBulkConfirmed}
use Rattle.cluster.specs.declared.confirmed.ConfirmedBulk.{ConfirmedBulk}
use Rattle.front.specs.declared.command.Write.{Write}
use Rattle.front.specs.declared.reply.ItemReply.{ItemReply}
use Rattle.front.specs.Reply.{Reply}
use Rattle.shard.specs.Answering.{item_reply_of, write_of}
use Rattle.group.specs.Group.{count_by, counted_at, replies_at, HasBulk, IsBulkTold, IsBulkWritten}
use Rattle.group.specs.Known.{KnownData, known}

pub as_many : (entries : List Receipt) (items : List Item) (places : List ℕ) → length (replies_at entries items places) ≡ length items
as_many entries [] places = refl
as_many entries (one ∷ items) [] = ap suc (as_many entries items [])
as_many entries (one ∷ items) (place ∷ places) = ap suc (as_many entries items places)

pub replies_more : (entries : List Receipt) (items : List Item) (item : Item) (places : List ℕ)
    → replies_at entries (items ++ item ∷ []) places ≡ replies_at entries items places ++ item_reply_of (count_by entries (slice_get places (length items))) item ∷ []
replies_more entries [] item [] = refl
replies_more entries [] item (place ∷ places) = refl
replies_more entries (one ∷ items) item [] = ap (λ (rs : List ItemReply). item_reply_of 0 one ∷ rs) (replies_more entries items item [])
replies_more entries (one ∷ items) item (place ∷ places) = ap (λ (rs : List ItemReply). item_reply_of (counted_at entries place) one ∷ rs) (replies_more entries items item places)

pub has_bulk : {J : Type 0} (confirmed : ConfirmedBulk J) (known : PrefixData Deed) → HasEntry known confirmed.bulk → All (HasEntry known) confirmed.acknowledgements.items → HasBulk confirmed known
has_bulk confirmed known bulk each = record { bulk = bulk; each = each }

-- a bulk that is confirmed and told is done
pub told_written : {J : Type 0} (before after : KnownData) (heard : PrefixData Deed) (ws : List Write) (confirmed : ConfirmedBulk J) (asked : List taken.Write) (r : Reply) → asked ≡ map write_of ws → IsBulkConfirmed asked confirmed → IsBulkTold confirmed r
    → IfSome before.heard (λ h. IsAheadOf h confirmed.bulk) → HasBulk confirmed heard → after ≡ known (Some heard) before.seen before.past → IsBulkWritten J before ws r after
told_written before after heard ws confirmed asked r is acknowledged told later has now = record {
  confirmed = confirmed;
  later = later;
  heard = heard;
  has = has;
  now = now;
  acknowledged = subst (λ (writes : List taken.Write). IsBulkConfirmed writes confirmed) is acknowledged;
  told = told;
}
