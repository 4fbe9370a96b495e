-- What a client knows of copies never goes back.
use Rattle.std.proofs.Common.{◌≡◌, ℕ, Bool, true, false, List, [], ◌∷◌, Some, inl, inr, refl, sym, ap, subst, ◌∙◌}
use Rattle.std.specs.Prelude.{IfSome}
use mathlib.Core.List.{IsPrefix}
use Rattle.chronicle.specs.Registered.{PrefixData, prefix}
use Rattle.chronicle.proofs.Lines.{prefix_trans}
use Rattle.doc.specs.Mapping.{MappingData}
use Rattle.journal.specs.declared.journal.Deed.{Deed}
use Rattle.node.specs.Entry.{Receipt}
use Rattle.node.specs.Heard.{IsAheadOf, IsNotBefore}
use Rattle.published.proofs.Orders.{self-IsPrefix}
use Rattle.cell.specs.Points.{IsShownBehind}
use Rattle.front.specs.Command.{write, bulk, get, search, count, refresh, promote}
use Rattle.group.specs.Known.{Heard, KnownData, HasRefreshed, IsSeenAmong, heard_by}
use Rattle.promises.specs.Copies.{NeverBackAtCopies, SearchesNeverBackAtCopies}
use Rattle.promises.proofs.AtCopies.{known_one}

module _ (before after : Heard) (p q : PrefixData Deed) (was : before ≡ Some p) (is : after ≡ Some q) where
  as_before : after ≡ before → IsPrefix p.entries q.entries
  as_before same = subst (λ (x : PrefixData Deed). IsPrefix p.entries x.entries) (known_one p q (sym was ∙ sym same ∙ is)) (self-IsPrefix p.entries)

  -- what comes next of the same copy begins with all of it
  as_next : (node : ℕ) (deeds : List Deed) → after ≡ Some (prefix node deeds) → (node ≡ p.number → IsPrefix p.entries deeds) → q.number ≡ p.number → IsPrefix p.entries q.entries
  as_next node deeds next grows same =
      let one = known_one q (prefix node deeds) (sym is ∙ next) in
      subst (λ (x : PrefixData Deed). IsPrefix p.entries x.entries) (sym one) (grows (sym (ap (λ (x : PrefixData Deed). x.number) one) ∙ same))

  as_told : (node : ℕ) (deeds : List Deed) → after ≡ heard_by before node deeds → (node ≡ p.number → IsPrefix p.entries deeds) → q.number ≡ p.number → IsPrefix p.entries q.entries
  as_told node [] next grows same = as_before next
  as_told node (d ∷ ds) next grows same = as_next node (d ∷ ds) next grows same

  as_seen : (heard : Heard) (primary : ℕ) (entries : List Receipt) → IsSeenAmong heard before primary entries after → q.number ≡ p.number → IsPrefix p.entries q.entries
  as_seen heard primary entries s same =
      let ahead : IsAheadOf p s.entry = subst (λ (h : Heard). IfSome h (λ x. IsAheadOf x s.entry)) was s.seen.unseen in
      as_next s.entry.node s.entry.deeds s.seen.seen (λ node. (ahead node).entries) same

module _ (before after : KnownData) (p q : PrefixData Deed) (was : before.seen ≡ Some p) (is : after.seen ≡ Some q) where
  as_refreshed : (copies : ℕ) → HasRefreshed before copies after → q.number ≡ p.number → IsPrefix p.entries q.entries
  as_refreshed copies r same = as_seen before.seen after.seen p q was is after.heard r.primary r.entries r.seen same

  as_wanted : (b : Bool) → (b ≡ true → (copies : ℕ) × HasRefreshed before copies after) → (b ≡ false → (after.seen ≡ before.seen) × (after.past ≡ before.past)) → q.number ≡ p.number → IsPrefix p.entries q.entries
  as_wanted true does other same = let r = does refl in as_refreshed r.0 r.1 same
  as_wanted false does other same = as_before before.seen after.seen p q was is (other refl).0

heard_of : (k l : KnownData) → k ≡ l → k.heard ≡ l.heard
heard_of k l e = ap (λ (x : KnownData). x.heard) e

seen_of : (k l : KnownData) → k ≡ l → k.seen ≡ l.seen
seen_of k l e = ap (λ (x : KnownData). x.seen) e

pub never_back_at_copies : (J : Type 0) (m : MappingData) → NeverBackAtCopies J m
never_back_at_copies J m (write w) r before after p q (inl is) was now same =
    let behind = is.acknowledged.behind in
    let ahead : IsAheadOf p is.confirmed.write = subst (λ (h : Heard). IfSome h (λ x. IsAheadOf x is.confirmed.write)) was is.later in
    as_next before.heard after.heard p q was now is.confirmed.acknowledgement.node is.confirmed.acknowledgement.deeds is.heard
    (λ node. prefix_trans p.entries is.confirmed.write.deeds is.confirmed.acknowledgement.deeds (ahead (sym behind.copy ∙ node)).entries behind.one) same
never_back_at_copies J m (bulk ws) r before after p q (inl is) was now same =
    let ahead : IsAheadOf p is.confirmed.bulk = subst (λ (h : Heard). IfSome h (λ x. IsAheadOf x is.confirmed.bulk)) was is.later in
    as_next before.heard after.heard p q was now is.heard.number is.heard.entries (ap (λ (x : KnownData). x.heard) is.now)
    (λ node. prefix_trans p.entries is.confirmed.bulk.deeds is.heard.entries (ahead (is.has.bulk.node ∙ node)).entries is.has.bulk.entries) same
never_back_at_copies J m (get id) r before after p q (inl is) was now same =
    as_told before.heard after.heard p q was now is.got.node is.got.deeds (ap (λ (x : KnownData). x.heard) is.now) (subst (λ (h : Heard). IfSome h (λ x. IsNotBefore x is.got)) was is.later) same
never_back_at_copies J m (search query page) r before after p q (inl is) was now same = as_before before.heard after.heard p q was now (ap (λ (x : KnownData). x.heard) is.seen.now)
never_back_at_copies J m (count query) r before after p q (inl is) was now same = as_before before.heard after.heard p q was now (ap (λ (x : KnownData). x.heard) is.seen.now)
never_back_at_copies J m refresh r before after p q (inl is) was now same = as_before before.heard after.heard p q was now is.heard
never_back_at_copies J m (promote copy) r before after p q (inl is) was now same = as_before before.heard after.heard p q was now (ap (λ (x : KnownData). x.heard) is.now)
never_back_at_copies J m c r before after p q (inr is) was now same = as_before before.heard after.heard p q was now (heard_of after before is.1)

pub searches_never_back_at_copies : (J : Type 0) (m : MappingData) → SearchesNeverBackAtCopies J m
searches_never_back_at_copies J m (write w) r before after p q (inl is) was now same = as_wanted before after p q was now w.refresh is.seen.refreshed is.seen.unrefreshed same
searches_never_back_at_copies J m (bulk ws) r before after p q (inl is) was now same = as_before before.seen after.seen p q was now (ap (λ (x : KnownData). x.seen) is.now)
searches_never_back_at_copies J m (get id) r before after p q (inl is) was now same = as_before before.seen after.seen p q was now (ap (λ (x : KnownData). x.seen) is.now)
searches_never_back_at_copies J m (search query page) r before after p q (inl is) was now same =
    as_told before.seen after.seen p q was now is.seen.at.node is.seen.at.deeds (ap (λ (x : KnownData). x.seen) is.seen.now) (subst (λ (h : Heard). IfSome h (λ x. IsShownBehind x is.seen.at)) was is.seen.later) same
searches_never_back_at_copies J m (count query) r before after p q (inl is) was now same =
    as_told before.seen after.seen p q was now is.seen.at.node is.seen.at.deeds (ap (λ (x : KnownData). x.seen) is.seen.now) (subst (λ (h : Heard). IfSome h (λ x. IsShownBehind x is.seen.at)) was is.seen.later) same
searches_never_back_at_copies J m refresh r before after p q (inl is) was now same = as_refreshed before after p q was now is.copies is.done same
searches_never_back_at_copies J m (promote copy) r before after p q (inl is) was now same = as_before before.seen after.seen p q was now (ap (λ (x : KnownData). x.seen) is.now)
searches_never_back_at_copies J m c r before after p q (inr is) was now same = as_before before.seen after.seen p q was now (seen_of after before is.1)
