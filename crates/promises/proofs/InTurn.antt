-- What a client of copies knows of the master.
use Rattle.std.proofs.Common.{◌≡◌, ℕ, Bool, true, false, List, inl, inr, refl, sym, ap, subst, ◌∙◌}
use mathlib.Core.List.{IsPrefix}
use Rattle.chronicle.proofs.Lines.{prefix_trans}
use Rattle.doc.specs.Mapping.{MappingData}
use Rattle.front.specs.Command.{Command, write, bulk, get, search, count, refresh, promote}
use Rattle.front.specs.Reply.{Reply, promoted, refused}
use Rattle.group.specs.Group.{IsTold}
use Rattle.group.specs.Known.{HasRefreshed, IsLedBehind, KnownData}
use Rattle.ruled.specs.declared.entry.MasterEntry.{MasterEntry}
use Rattle.promises.specs.Promises.{is_refused}
use Rattle.promises.specs.Copies.{IsOfPrimary, IsPromotion, MasterNeverBack, PromotionsAreFollowed, reads}
use Rattle.promises.proofs.AtCopies.{left_after, read_of}
use Rattle.published.proofs.Orders.{self-IsPrefix}
use Rattle.promises.proofs.SeenAtCopies.{not_refused, sought, sought_of}

-- ---- its journal

module _ (before after : KnownData) where
  past_as_before : after.past ≡ before.past → IsPrefix before.past after.past
  past_as_before same = subst (λ (es : List MasterEntry). IsPrefix before.past es) (sym same) (self-IsPrefix before.past)

  past_wanted : (b : Bool) → (b ≡ true → (copies : ℕ) × HasRefreshed before copies after) → (b ≡ false → (after.seen ≡ before.seen) × (after.past ≡ before.past)) → IsPrefix before.past after.past
  past_wanted true does other = let r = does refl in r.1.later
  past_wanted false does other = past_as_before (other refl).1

pub master_never_back : (J : Type 0) (m : MappingData) → MasterNeverBack J m
master_never_back J m (write w) r before after (inl is) = past_wanted before after w.refresh is.seen.refreshed is.seen.unrefreshed
master_never_back J m (bulk ws) r before after (inl is) = past_as_before before after (ap (λ (k : KnownData). k.past) is.now)
master_never_back J m (get id) r before after (inl is) = is.led.later
master_never_back J m (search q page) r before after (inl is) = is.seen.led.later
master_never_back J m (count q) r before after (inl is) = is.seen.led.later
master_never_back J m refresh r before after (inl is) = is.done.later
master_never_back J m (promote copy) r before after (inl is) = is.later
master_never_back J m c r before after (inr is) = past_as_before before after (ap (λ (k : KnownData). k.past) is.1)

-- ---- a promotion

led_on : (past : List MasterEntry) (before now : List MasterEntry) (node : ℕ) → IsPrefix past before → IsLedBehind before node now → IsLedBehind past node now
led_on past before now node goes led = record { later = prefix_trans past before now goes led.later; leads = led.leads }

of_primary : (J : Type 0) (m : MappingData) (past : List MasterEntry) (c : Command) (r : Reply) (later new : KnownData) → IsPrefix past later.past → IsTold J m later c r new → reads c ≡ true → is_refused r ≡ false → IsOfPrimary m past c r
of_primary J m past c r later new goes (inr refusal) asks fine = not_refused r refusal.0.refusal refusal.0.told fine
of_primary J m past (get id) r later new goes (inl is) asks fine = record {
  node = is.got.node;
  deeds = is.got.deeds;
  os = left_after is.is_got.journal.opening is.got.deeds;
  reply = read_of id r later new is;
  now = new.past;
  led = led_on past later.past new.past is.got.node goes is.led;
}
of_primary J m past (search q page) r later new goes (inl is) asks fine =
    let s = sought J m (search q page) r later new (inl is) refl fine in
    record { node = s.seen.at.node; deeds = s.seen.at.deeds; os = left_after s.seen.shown.stands.opening s.seen.at.deeds; reply = sought_of m (search q page) r later new s; now = new.past; led = led_on past later.past new.past s.seen.at.node goes s.seen.led }
of_primary J m past (count q) r later new goes (inl is) asks fine =
    let s = sought J m (count q) r later new (inl is) refl fine in
    record { node = s.seen.at.node; deeds = s.seen.at.deeds; os = left_after s.seen.shown.stands.opening s.seen.at.deeds; reply = sought_of m (count q) r later new s; now = new.past; led = led_on past later.past new.past s.seen.at.node goes s.seen.led }
of_primary J m past (write w) r later new goes (inl is) asks fine = absurd (let no : false ≡ true = asks in cc)
of_primary J m past (bulk ws) r later new goes (inl is) asks fine = absurd (let no : false ≡ true = asks in cc)
of_primary J m past refresh r later new goes (inl is) asks fine = absurd (let no : false ≡ true = asks in cc)
of_primary J m past (promote copy) r later new goes (inl is) asks fine = absurd (let no : false ≡ true = asks in cc)

promotion_in : (J : Type 0) (m : MappingData) (copy term : ℕ) (before after : KnownData) → IsTold J m before (promote copy) (promoted copy term) after → IsPromotion copy after.past
promotion_in J m copy term before after (inl is) = record { decision = is.made.decision; decided = is.made.decided }
promotion_in J m copy term before after (inr refusal) = absurd (let never : promoted copy term ≡ refused refusal.0.refusal = refusal.0.told in cc)

pub promotions_are_followed : (J : Type 0) (m : MappingData) → PromotionsAreFollowed J m
promotions_are_followed J m copy term c r before after later new told goes then asks fine = (promotion_in J m copy term before after told, of_primary J m after.past c r later new goes then asks fine)
