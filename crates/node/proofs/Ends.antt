-- Receipts in the journal of a copy that has ended.
use Rattle.std.proofs.Common.{◌≡◌, ◌<◌, ◌≤◌, ℕ, zero, suc, Bool, true, false, List, [], ◌∷◌, length, refl, sym, ap, subst, ◌∙◌, arith, Option, Some, None}
use Rattle.std.specs.Prelude.{◌↔◌, slice_get, IfNone, IfSome}
use mathlib.Core.List.{IsPrefix}
use Rattle.chronicle.specs.Registered.{PrefixData, prefix}
use Rattle.journal.specs.declared.journal.Deed.{Deed}
use Rattle.journal.specs.declared.journal.Journal.{Journal}
use Rattle.journal.specs.declared.journal.Journal.TheVariants.{OfMaster, OfCopy}
use Rattle.journal.specs.Journal.{IsLegal, open_at}
use Rattle.replica.specs.Copy.{Copy}
use Rattle.node.specs.Entry.{Receipt}
use Rattle.node.specs.Ended.{deeds_of, node_of, HasReceipt, IsAllOf, IsEnded, IsJournalFrom}
use Rattle.node.specs.Gathered.{deed_at}
use Rattle.node.specs.Heard.{HasEntry, IsAheadOf}

all_of : (h : Option (PrefixData Deed)) (c : Copy) (deeds : List Deed) → IfSome h (λ p. p ≡ prefix c.id deeds) → IfNone h (deeds ≡ []) → IsAllOf (OfCopy c deeds) h
all_of None c deeds some none = none
all_of (Some p) c deeds some none = (ap (λ (x : PrefixData Deed). x.number) some, ap (λ (x : PrefixData Deed). x.entries) some)

-- what a copy leaves
pub ended : (c o : Copy) (ds es : List Deed) (h : Option (PrefixData Deed)) → o ≡ c → ds ≡ es → IsLegal (open_at c) 0 es → IfSome h (λ p. p ≡ prefix c.id es) → IfNone h (es ≡ []) → IsEnded c h (OfCopy o ds)
ended c o ds es h opening deeds legal some none =
    let here : IsEnded c h (OfCopy c es) = record { from = record { deeds = es; is = refl }; legal = legal; all = all_of h c es some none } in
    subst (λ (x : Copy). IsEnded c h (OfCopy x ds)) (sym opening) (subst (λ (l : List Deed). IsEnded c h (OfCopy c l)) (sym deeds) here)

pub from_began : (c : Copy) (h : Option (PrefixData Deed)) (j : Journal) → IsEnded c h j → IsJournalFrom c j
from_began c h j e = e.from

pub from_same : (c other : Copy) (h : Option (PrefixData Deed)) (j : Journal) → other ≡ c → IsEnded c h j → IsJournalFrom other j
from_same c other h j same e = subst (λ (x : Copy). IsJournalFrom x j) (sym same) e.from

-- one with another id began another journal
pub from_other : (c other : Copy) (h : Option (PrefixData Deed)) (j : Journal) → (other.id ≡ c.id → ⊥) → IsEnded c h j → IsJournalFrom other j → ⊥
from_other c other h j differ e from = differ (sym (ap node_of from.is) ∙ ap node_of e.from.is)

-- a receipt among all that was told of it
pub has_receipt : (c : Copy) (h : PrefixData Deed) (j : Journal) (r : Receipt) (b : Bool) → IsEnded c (Some h) j → HasEntry h r → (b ≡ true) ↔ (deed_at j r.place ≡ Some r.deed) → b ≡ true → HasReceipt r j
has_receipt c h j r b e entry same holds = record {
  node = sym (entry.node ∙ e.all.0);
  stands = same.0 holds;
  entries = subst (λ (ds : List Deed). IsPrefix r.deeds ds) e.all.1 entry.entries;
}

get_within : (ds : List Deed) (k : ℕ) (d : Deed) → slice_get ds k ≡ Some d → k < length ds
get_within [] k d at = absurd cc
get_within (e ∷ ds) zero d at = omega arith
get_within (e ∷ ds) (suc k) d at = let rest = get_within ds k d at in omega (arith, rest)

past_end : (j : Journal) (place : ℕ) (d : Deed) → length (deeds_of j) ≤ place → deed_at j place ≡ Some d → ⊥
past_end (OfMaster state rulings) place d past at = absurd cc
past_end (OfCopy opening deeds) place d past at = let within = get_within deeds place d at in omega (arith, within, past)

-- one behind all of it
pub lacks_behind : (c : Copy) (h : PrefixData Deed) (j : Journal) (r : Receipt) → IsEnded c (Some h) j → IsAheadOf h r → HasReceipt r j → ⊥
lacks_behind c h j r e ahead has =
    let behind = ahead (sym has.node ∙ sym e.all.0) in
    past_end j r.place r.deed (subst (λ (ds : List Deed). length ds ≤ r.place) e.all.1 behind.place) has.stands

-- one that doesn't stand at its place
pub lacks_there : (j : Journal) (r : Receipt) (b : Bool) → (b ≡ true) ↔ (deed_at j r.place ≡ Some r.deed) → b ≡ false → HasReceipt r j → ⊥
lacks_there j r b same other has = absurd (let wrong : true ≡ false = sym (same.1 has.stands) ∙ other in cc)

-- any, where there is no entry
pub lacks_all : (c : Copy) (j : Journal) (r : Receipt) → IsEnded c None j → HasReceipt r j → ⊥
lacks_all c j r e has = past_end j r.place r.deed (subst (λ (ds : List Deed). length ds ≤ r.place) (sym e.all) (omega arith)) has.stands
