-- What is seen of a copy by a refresh.
use Rattle.std.proofs.Common.{◌≡◌, ℕ, Bool, true, false, List, length, sym, ap, subst, ◌∙◌}
use Rattle.node.specs.Entry.{Receipt}
use Rattle.cluster.specs.Refreshed.{AreRefreshed}
use Rattle.ruled.specs.declared.entry.MasterEntry.{MasterEntry}
use mathlib.Core.List.{IsPrefix}
use Rattle.front.specs.Reply.{Reply, refreshed}
use Rattle.std.specs.Prelude.{IfSome, Some}
use Rattle.chronicle.specs.Registered.{prefix}
use Rattle.node.specs.Heard.{IsAheadOf, IsNotBefore}
use Rattle.cluster.specs.Confirmed.{IsConfirmed}
use Rattle.cluster.specs.declared.confirmed.Confirmed.{Confirmed}
use Rattle.front.specs.declared.command.Write.{Write}
use Rattle.shard.specs.Answering.{reply_of, write_of}
use Rattle.doc.specs.Id.{Id}
use Rattle.node.specs.Reading.{GotData, IsGot as IsRead}
use Rattle.group.specs.Group.{IsGot, IsRefreshedAs, IsWritten, counted_in, told_by}
use Rattle.group.specs.Known.{Heard, KnownData, HasRefreshed, IsAmong, IsLedBehind, IsSeenAmong, IsSeenBy, heard_by, known}
use Rattle.group.specs.Searching.{IsRefreshed}

pub is_refreshed : (before after : KnownData) (copies : ℕ) (r : Reply) → HasRefreshed before copies after → after.heard ≡ before.heard → r ≡ refreshed copies → IsRefreshed before r after
is_refreshed before after copies r done heard told = record {
  copies = copies;
  done = done;
  heard = heard;
  told = told;
}

pub is_wanted : (wanted : Bool) (before after : KnownData) (copies : ℕ) → HasRefreshed before copies after → wanted ≡ true → IsRefreshedAs wanted before after
is_wanted wanted before after copies is so = record { refreshed = λ _. (copies, is); unrefreshed = λ other. absurd (let never : true ≡ false = sym so ∙ other in cc) }

pub is_unwanted : (wanted : Bool) (before after : KnownData) → wanted ≡ false → after ≡ before → IsRefreshedAs wanted before after
is_unwanted wanted before after so same = record {
  refreshed = λ other. absurd (let never : true ≡ false = sym other ∙ so in cc);
  unrefreshed = λ _. (ap (λ (k : KnownData). k.seen) same, ap (λ (k : KnownData). k.past) same);
}

pub has_refreshed : (before after : KnownData) (seen : Heard) (past : List MasterEntry) (primary : ℕ) (entries : List Receipt) (copies : ℕ) → AreRefreshed past primary entries → length entries ≡ copies → IsPrefix before.past past
    → IsSeenAmong before.heard before.seen primary entries seen → after ≡ known before.heard seen past → HasRefreshed before copies after
has_refreshed before after seen past primary entries copies are many later is now =
    subst (λ (k : KnownData). HasRefreshed before copies k) (sym now) (record { entries = entries; primary = primary; many = many; refreshed = are; later = later; seen = is })

pub seen_among : (heard before after : Heard) (primary : ℕ) (entries : List Receipt) (r : Receipt) → IsAmong entries r → r.node ≡ primary → IsSeenBy heard before r after → IsSeenAmong heard before primary entries after
seen_among heard before after primary entries r among leads seen = record { entry = r; among = among; leads = leads; seen = seen }

-- ---- behind a write

has_behind : (before after : KnownData) (h : Heard) (copies : ℕ) → HasRefreshed (known h before.seen before.past) copies after → HasRefreshed before copies after
has_behind before after h copies r = record { entries = r.entries; primary = r.primary; many = r.many; refreshed = r.refreshed; later = r.later; seen = r.seen }

-- what was heard of the write changes nothing else that is known
as_behind : (wanted : Bool) (before after : KnownData) (h : Heard) → IsRefreshedAs wanted (known h before.seen before.past) after → IsRefreshedAs wanted before after
as_behind wanted before after h is = record { refreshed = λ so. let done = is.refreshed so in (done.0, has_behind before after h done.0 done.1); unrefreshed = is.unrefreshed }

pub is_written : {J : Type 0} (before between after : KnownData) (w : Write) (confirmed : Confirmed J) (r : Reply) → IfSome before.heard (λ h. IsAheadOf h confirmed.write) → IsConfirmed (write_of w) confirmed
    → r ≡ told_by confirmed.write.deed.answer (counted_in confirmed.acknowledgement.deed.answer) → between ≡ known (Some (prefix confirmed.acknowledgement.node confirmed.acknowledgement.deeds)) before.seen before.past
    → after.heard ≡ between.heard → IsRefreshedAs w.refresh between after → IsWritten J before w r after
is_written before between after w confirmed r later acknowledged told next heard is = record {
  confirmed = confirmed;
  later = later;
  heard = heard ∙ ap (λ (k : KnownData). k.heard) next;
  acknowledged = acknowledged;
  told = told;
  seen = as_behind w.refresh before after (Some (prefix confirmed.acknowledgement.node confirmed.acknowledgement.deeds)) (subst (λ (k : KnownData). IsRefreshedAs w.refresh k after) next is);
}

-- ---- a get

pub is_got : (before between after : KnownData) (id : Id) (got : GotData) (primary : ℕ) (past : List MasterEntry) (r : Reply) → IsRead got → got.node ≡ primary → got.id ≡ id → IfSome before.heard (λ h. IsNotBefore h got) → r ≡ reply_of 0 got.answer
    → IsLedBehind before.past primary past → between ≡ known (heard_by before.heard got.node got.deeds) before.seen before.past → after ≡ known between.heard between.seen past → IsGot before id r after
is_got before between after id got primary past r read node same later told led next now =
    let all : after ≡ known (heard_by before.heard got.node got.deeds) before.seen past = now ∙ ap (λ (k : KnownData). known k.heard k.seen past) next in
    let behind : past ≡ after.past = sym (ap (λ (k : KnownData). k.past) all) in
    record {
      got = got;
      is_got = read;
      id_is = same;
      later = later;
      told = told;
      led = subst (λ (es : List MasterEntry). IsLedBehind before.past got.node es) behind (subst (λ n. IsLedBehind before.past n past) (sym node) led);
      now = all ∙ ap (λ (es : List MasterEntry). known (heard_by before.heard got.node got.deeds) before.seen es) behind;
    }
