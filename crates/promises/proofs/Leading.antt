-- A copy that keeps writes leads, and goes on to, and writes them in its term.
use Rattle.std.proofs.Common.{◌≡◌, ℕ, List, [], ◌∷◌, ◌++◌, Option, Some, Result, Ok, Err, refl, sym, ap, subst, ◌∙◌}
use Rattle.std.specs.Prelude.{⊤, filter, is_some, not, slice_get}
use Rattle.std.specs.List.{AllByRecursion}
use Rattle.doc.specs.Outcome.{◌>>=◌}
use Rattle.replica.specs.declared.fault.CopyFault.{CopyFault}
use Rattle.replica.specs.declared.input.Write.{Write}
use Rattle.replica.specs.declared.output.Answer.{Answer}
use Rattle.replica.specs.declared.output.Item.{Item}
use Rattle.replica.specs.declared.output.Item.TheVariants.{Wrote as WroteItem, Refused as RefusedItem}
use Rattle.replica.specs.declared.output.Written.{Written}
use Rattle.replica.specs.declared.role.Lead.{Lead}
use Rattle.replica.specs.declared.role.Role.{Role}
use Rattle.replica.specs.declared.role.Role.TheVariants.{Empty, Replica, Primary}
use Rattle.replica.specs.Copy.{Copy}
use Rattle.replica.specs.Step.{Folded, Step, Stepped, bulk, bulked, client, first_fault, folded, is_settled, item_of, op_of, pending, record_of, settled, settled_as, spellable, unless, unwritten, with_write, write_faults, write_step}
use Rattle.world.proofs.Lists.{All-append, All-at, Contains-at}
use Rattle.cluster.specs.Bulks.{bulked_as}
use Rattle.promises.proofs.Written.{wrote_step}

-- the copy leads in the term of that one
pub record IsLeadingAs (c d : Copy) : Type 0 where
  pub lead : Lead
  pub role : d.role ≡ Primary lead
  pub term : d.term ≡ c.term

settled_leads : (r : Result ⊤ CopyFault) (y s : Stepped) (lead : Lead) → settled (r >>= λ u. Ok y) ≡ Ok s → y.copy.role ≡ Primary lead → IsLeadingAs y.copy s.copy
settled_leads (Ok u) y s lead e role =
    let is : settled_as y y.copy.role ≡ s = cc in
    let leads : settled_as y (Primary lead) ≡ s = ap (settled_as y) (sym role) ∙ is in
    subst (λ (z : Stepped). IsLeadingAs y.copy z.copy) leads (record { lead = record lead { pending = filter (λ n. not (is_settled y.copy lead n)) lead.pending }; role = refl; term = refl })
settled_leads (Err f) y s lead e role = absurd cc

pub write_leads : (c : Copy) (w : Write) (s : Stepped) (role : Role) → settled (client c w role) ≡ Ok s → IsLeadingAs c s.copy
unfolding unless
write_leads c w s Empty e = absurd cc
write_leads c w s Replica e = absurd cc
write_leads c w s (Primary lead) e =
    let is = settled_leads (first_fault (write_faults c w ++ spellable (record_of c (op_of c w)))) _ s (pending lead (op_of c w)) e refl in
    record { lead = is.lead; role = is.role; term = is.term }

-- ---- bulks

-- what became of a write is of this term, where it was kept
abbrev pub IsOfTerm : ℕ → Item → Type 0
IsOfTerm t (WroteItem y) = y.term ≡ t
IsOfTerm t (RefusedItem f) = Unit {0}

-- after some writes the copy still leads, in its term
record IsLedThrough (c : Copy) (b : Folded) : Type 0 where
  leads : IsLeadingAs c b.copy
  items : AllByRecursion (IsOfTerm c.term) b.items

one_through : (c : Copy) (b : Folded) (w : Write) (r : Step) → write_step b.copy w ≡ r → IsLedThrough c b → IsLedThrough c (with_write b r)
one_through c b w (Ok s) step h =
    let on = write_leads b.copy w s b.copy.role step in
    let answer = (wrote_step b.copy w s b.copy.role step).1 in
    record {
      leads = record { lead = on.lead; role = on.role; term = on.term ∙ h.leads.term };
      items = All-append (IsOfTerm c.term) b.items (item_of s.answer) h.items (subst (λ (a : Answer). AllByRecursion (IsOfTerm c.term) (item_of a)) (sym answer) (h.leads.term, tt));
    }
one_through c b w (Err e) step h = record { leads = h.leads; items = All-append (IsOfTerm c.term) b.items (RefusedItem e ∷ []) h.items (tt, tt) }

all_through : (c : Copy) (b : Folded) (ws : List Write) → IsLedThrough c b → IsLedThrough c (folded b ws)
all_through c b [] h = h
all_through c b (w ∷ ws) h = all_through c (with_write b (write_step b.copy w)) ws (one_through c b w (write_step b.copy w) refl h)

pub record IsBulkLed (c : Copy) (s : Stepped) (is : List Item) : Type 0 where
  pub leads : IsLeadingAs c s.copy
  pub term : (place : ℕ) (y : Written) → slice_get is place ≡ Some (WroteItem y) → y.term ≡ c.term

items_same : (xs ys : List Item) → (let o : Option (List Item) = Some xs in o) ≡ Some ys → xs ≡ ys
items_same xs ys e = cc

pub bulk_leads : (c : Copy) (ws : List Write) (is : List Item) (s : Stepped) (role : Role) → c.role ≡ role → bulk c ws role ≡ Ok s → bulked_as s.answer ≡ Some is → IsBulkLed c s is
bulk_leads c ws is s Empty own e told = absurd cc
bulk_leads c ws is s Replica own e told = absurd cc
bulk_leads c ws is s (Primary lead) own e told =
    let b = folded (unwritten c) ws in
    let all = all_through c (unwritten c) ws (record { leads = record { lead = lead; role = own; term = refl }; items = tt }) in
    let same : bulked b ≡ s = cc in
    let items : b.items ≡ is = items_same b.items is (ap (λ (z : Stepped). bulked_as z.answer) same ∙ told) in
    record {
      leads = subst (λ (z : Stepped). IsLeadingAs c z.copy) same all.leads;
      term = λ place y there. All-at (IsOfTerm c.term) is (WroteItem y) (subst (λ (l : List Item). AllByRecursion (IsOfTerm c.term) l) items all.items) (Contains-at is place (WroteItem y) there);
    }
