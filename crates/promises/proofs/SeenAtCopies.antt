-- What searches of copies see of a client's writes.
use Rattle.std.proofs.Common.{◌≡◌, ℕ, Bool, true, false, List, Some, None, inl, inr, refl, sym, ap, subst, ◌∙◌}
use Rattle.std.specs.Prelude.{IfSome}
use mathlib.Core.List.{IsPrefix}
use Rattle.chronicle.specs.Registered.{prefix}
use Rattle.doc.specs.Mapping.{MappingData}
use Rattle.op.specs.declared.record.Record.{Record}
use Rattle.op.specs.Records.{operations as all_in}
use Rattle.op.proofs.RecordLaws.{IsAscending-operations}
use Rattle.journal.specs.Journal.{after, open_at}
use Rattle.node.specs.Entry.{Receipt}
use Rattle.node.specs.Heard.{IsAheadOf}
use Rattle.cell.specs.Points.{IsShownBehind}
use Rattle.published.specs.declared.listing.Listing.{Listing}
use Rattle.front.specs.Command.{Command, write, bulk, get, search, count, refresh, promote}
use Rattle.front.specs.Reply.{Reply, refused}
use Rattle.group.specs.Group.{IsTold}
use Rattle.group.specs.Known.{Heard, KnownData, HasRefreshed}
use Rattle.group.specs.Searching.{IsSeen}
use Rattle.promises.specs.Promises.{IsOver, is_refused, is_search}
use Rattle.promises.specs.Copies.{IsRefreshSeen, IsSoughtAfter, RefreshesAreSeenAtCopies, WritesAreSeenAtCopies}
use Rattle.promises.proofs.AtCopies.{entry_of, has_from, left_after}

-- ---- a search

pub record IsSought (m : MappingData) (later : KnownData) (c : Command) (r : Reply) (new : KnownData) : Type 0 where
  pub listing : Listing
  pub seen : IsSeen m later listing new
  pub over : IsOver m (all_in listing.records) c r

pub not_refused : {X : Type 0} (r : Reply) (f : _) → r ≡ refused f → is_refused r ≡ false → X
not_refused r f told fine = absurd (let no : true ≡ false = sym (ap is_refused told) ∙ fine in cc)

under : (m : MappingData) (l : Listing) (c : Command) (r : Reply) → l.mapping ≡ m → IsOver l.mapping (all_in l.records) c r → IsOver m (all_in l.records) c r
under m l c r same over = subst (λ (k : MappingData). IsOver k (all_in l.records) c r) same over

pub sought : (J : Type 0) (m : MappingData) (c : Command) (r : Reply) (later new : KnownData) → IsTold J m later c r new → is_search c ≡ true → is_refused r ≡ false → IsSought m later c r new
sought J m c r later new (inr refusal) looks fine = not_refused r refusal.0.refusal refusal.0.told fine
sought J m (search q page) r later new (inl is) looks fine = record { listing = is.listing; seen = is.seen; over = under m is.listing (search q page) r is.seen.shown.mapping is.hits_are }
sought J m (count q) r later new (inl is) looks fine = record { listing = is.listing; seen = is.seen; over = under m is.listing (count q) r is.seen.shown.mapping is.total_is }
sought J m (write w) r later new (inl is) looks fine = absurd (let no : false ≡ true = looks in cc)
sought J m (bulk ws) r later new (inl is) looks fine = absurd (let no : false ≡ true = looks in cc)
sought J m (get id) r later new (inl is) looks fine = absurd (let no : false ≡ true = looks in cc)
sought J m refresh r later new (inl is) looks fine = absurd (let no : false ≡ true = looks in cc)
sought J m (promote copy) r later new (inl is) looks fine = absurd (let no : false ≡ true = looks in cc)

-- it is of what the copy has at a place of its journal
pub sought_of : (m : MappingData) (c : Command) (r : Reply) (later new : KnownData) (s : IsSought m later c r new) → IsSoughtAfter m c r s.seen.at.node s.seen.at.deeds (left_after s.seen.shown.stands.opening s.seen.at.deeds)
sought_of m c r later new s =
    let at = s.seen.at in
    let j = s.seen.shown.stands in
    let same : s.listing.records ≡ (after (open_at j.opening) 0 at.deeds).copy.records = sym s.seen.shown.records ∙ j.records_is in
    record {
      opening = j.opening;
      legal = j.legal;
      node_is = j.node_is;
      left = refl;
      over = subst (λ (rs : List Record). IsOver m (all_in rs) c r) same s.over;
    }

pub writes_are_seen_at_copies : (J : Type 0) (m : MappingData) → WritesAreSeenAtCopies J m
writes_are_seen_at_copies J m w x asked reply c r acked before after' later new is told upto knows then looks fine =
    let e = entry_of J m w x asked reply before after' acked is told upto in
    let s = sought J m c r later new then looks fine in
    let at = s.seen.at in
    let j = s.seen.shown.stands in
    record {
      node = at.node;
      deeds = at.deeds;
      os = left_after j.opening at.deeds;
      sought = sought_of m c r later new s;
      from = has_from acked knows.known w.id x.seq e j.opening at.node at.deeds (record { copy = IsAscending-operations j.opening.records j.sound; other = tt }) j.legal knows.entries knows.copy
          (subst (λ (h : Heard). IfSome h (λ p. IsShownBehind p at)) knows.is s.seen.later);
    }

-- ---- a refresh

ahead_if : (heard : Heard) (r : Receipt) → IfSome heard (λ h. IsAheadOf h r) → IfSome heard (λ h. r.node ≡ h.number → IsPrefix h.entries r.deeds)
ahead_if None r ahead = tt
ahead_if (Some h) r ahead = λ same. (ahead same).entries

seen_by : (before after' : KnownData) (copies : ℕ) → HasRefreshed before copies after' → IsRefreshSeen after'
seen_by before after' copies is = record {
  seen = prefix is.seen.entry.node is.seen.entry.deeds;
  is = is.seen.seen.seen;
  behind = ahead_if after'.heard is.seen.entry is.seen.seen.unheard;
}

pub refreshes_are_seen_at_copies : (J : Type 0) (m : MappingData) → RefreshesAreSeenAtCopies J m
refreshes_are_seen_at_copies J m c r before after' (inr refusal) does fine = not_refused r refusal.0.refusal refusal.0.told fine
refreshes_are_seen_at_copies J m (write w) r before after' (inl is) does fine = let done = is.seen.refreshed does in seen_by before after' done.0 done.1
refreshes_are_seen_at_copies J m refresh r before after' (inl is) does fine = seen_by before after' is.copies is.done
refreshes_are_seen_at_copies J m (bulk ws) r before after' (inl is) does fine = absurd (let no : false ≡ true = does in cc)
refreshes_are_seen_at_copies J m (get id) r before after' (inl is) does fine = absurd (let no : false ≡ true = does in cc)
refreshes_are_seen_at_copies J m (search q page) r before after' (inl is) does fine = absurd (let no : false ≡ true = does in cc)
refreshes_are_seen_at_copies J m (count q) r before after' (inl is) does fine = absurd (let no : false ≡ true = does in cc)
refreshes_are_seen_at_copies J m (promote copy) r before after' (inl is) does fine = absurd (let no : false ≡ true = does in cc)
