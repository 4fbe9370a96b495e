-- Journals that are handed out.
use Rattle.std.proofs.Common.{◌≡◌, ◌<◌, ◌≤◌, ◌+◌, ℕ, true, List, [], ◌∷◌, ◌++◌, take, length, get_or, refl, sym, ap, subst, ◌∙◌, arith, Option, Some, None}
use Rattle.std.specs.Prelude.{is_some, All, IfSome}
use Rattle.std.specs.List.{AllWithin, AllZip}
use Rattle.std.proofs.lemmas.List.{take_more}
use Rattle.std.proofs.lemmas.List.Elements.{All-nil, All-cons}
use Rattle.journal.specs.declared.journal.Journal.{Journal}
use Rattle.journal.specs.declared.journal.Journal.TheVariants.{OfCopy}
use Rattle.journal.specs.Lawful.{IsLawful}
use Rattle.replica.specs.Copy.{Copy}
use Rattle.node.specs.Ended.{node_of, HasReceipt, IsJournalFrom}
use Rattle.node.specs.Entry.{Receipt}
use Rattle.node.specs.Held.{JournalData}
use Rattle.node.specs.Passes.{PassData}
use Rattle.cluster.specs.Journals.{AreHandedOut, IsFirstLost, IsLegalJournal, IsLostBy, IsOfOneCaller, IsOwnFrom, RiseFrom, StandsIn}
use Rattle.cluster.specs.Opened.{last_id, IdsRiseFrom}
use Rattle.cluster.specs.Owned.{IsOwnPass}
use Rattle.cluster.proofs.Owned.{one_caller, own_new}

-- ---- what a worker leaves

left_by : (o : Option Journal) (d : JournalData) → is_some o ≡ d.kept → IfSome o (λ j. j ≡ OfCopy d.opening d.deeds) → (d.kept ≡ true → IsOfOneCaller (OfCopy d.opening d.deeds)) → IfSome o IsOfOneCaller
left_by None d kept is own = tt
left_by (Some j) d kept is own = subst (λ (x : Journal). IsOfOneCaller x) (sym is) (own (sym kept))

-- the journal that a copy leaves is of its worker alone
pub of_served : (o : Option Journal) (d : JournalData) (p : PassData) → IsOwnPass d p → is_some o ≡ d.kept → IfSome o (λ j. j ≡ OfCopy d.opening d.deeds) → IfSome o IsOfOneCaller
of_served o d p own kept is = left_by o d kept is (λ k. one_caller d p own k)

pub of_unserved : (o : Option Journal) (d : JournalData) → d.deeds ≡ [] → is_some o ≡ d.kept → IfSome o (λ j. j ≡ OfCopy d.opening d.deeds) → IfSome o IsOfOneCaller
of_unserved o d empty kept is =
    let p : PassData = record { number = d.opening.id; receipts = [] } in
    left_by o d kept is (λ k. one_caller d p (own_new d p d.opening.id empty refl refl) k)

pub own_from : (c : Copy) (j : Journal) → IsJournalFrom c j → IsLawful j → IsOfOneCaller j → IsOwnFrom c j
own_from c j from legal own = record { from = from; legal = record { lawful = legal }; own = own }

pub stands_nowhere : (js : List Journal) (r : Receipt) (i : ℕ) → AllWithin (λ j. HasReceipt r j → ⊥) js 0 i → length js ≤ i → StandsIn js r → ⊥
stands_nowhere js r i none all s =
    let at = s.one in
    none at.0 at.1 (omega arith) (omega (arith, at.2, all)) (subst (λ (j : Journal). HasReceipt r j) (sym at.3) at.4)

-- ---- copies in order

rise_push : (k : ℕ) (cs : List Copy) (c : Copy) → IdsRiseFrom k cs → last_id k cs < c.id → IdsRiseFrom k (cs ++ c ∷ [])
rise_push k [] c h lt = (lt, tt)
rise_push k (d ∷ cs) c h lt = (h.0, rise_push d.id cs c h.1 lt)

pub rise_more : (old new : List Copy) (c : Copy) (id : ℕ) → IdsRiseFrom 0 old → last_id 0 old < id → id ≡ c.id → new ≡ old ++ c ∷ [] → IdsRiseFrom 0 new
rise_more old new c id h lt same is = subst (λ (cs : List Copy). IdsRiseFrom 0 cs) (sym is) (rise_push 0 old c h (subst (λ (n : ℕ). last_id 0 old < n) same lt))

rise_from : (id : ℕ) (cs : List Copy) (js : List Journal) → AllZip IsJournalFrom cs js → IdsRiseFrom id cs → RiseFrom id js
rise_from id [] [] z h = tt
rise_from id [] (j ∷ js) z h = absurd z
rise_from id (c ∷ cs) [] z h = absurd z
rise_from id (c ∷ cs) (j ∷ js) z h =
    let same : c.id ≡ node_of j = sym (ap node_of z.0.is) in
    (subst (λ (n : ℕ). id < n) same h.0, subst (λ (n : ℕ). RiseFrom n js) same (rise_from c.id cs js z.1 h.1))

zip_push : (R : Copy → Journal → Type 0) (cs : List Copy) (js : List Journal) (c : Copy) (j : Journal) → AllZip R cs js → R c j → AllZip R (cs ++ c ∷ []) (js ++ j ∷ [])
zip_push R [] [] c j z r = (r, tt)
zip_push R [] (y ∷ js) c j z r = absurd z
zip_push R (x ∷ cs) [] c j z r = absurd z
zip_push R (x ∷ cs) (y ∷ js) c j z r = (z.0, zip_push R cs js c j z.1 r)

pub zip_more : (R : Copy → Journal → Type 0) (cs : List Copy) (js : List Journal) (i : ℕ) (c : Copy) (j : Journal) → i < length cs → i < length js → c ≡ get_or cs i c → j ≡ get_or js i j → AllZip R (take i cs) (take i js) → R c j
    → AllZip R (take (i + 1) cs) (take (i + 1) js)
zip_more R cs js i c j in-cs in-js c-is j-is h r =
    let left : take i cs ++ c ∷ [] ≡ take (i + 1) cs = ap (λ (x : Copy). take i cs ++ x ∷ []) c-is ∙ sym (take_more cs i c in-cs) in
    let right : take i js ++ j ∷ [] ≡ take (i + 1) js = ap (λ (x : Journal). take i js ++ x ∷ []) j-is ∙ sym (take_more js i j in-js) in
    subst (λ (l : List Copy). AllZip R l (take (i + 1) js)) left (subst (λ (l : List Journal). AllZip R (take i cs ++ c ∷ []) l) right (zip_push R (take i cs) (take i js) c j h r))

each_from : (cs : List Copy) (js : List Journal) → AllZip IsOwnFrom cs js → AllZip IsJournalFrom cs js
each_from [] [] z = tt
each_from [] (j ∷ js) z = absurd z
each_from (c ∷ cs) [] z = absurd z
each_from (c ∷ cs) (j ∷ js) z = (z.0.from, each_from cs js z.1)

each_own : (cs : List Copy) (js : List Journal) → AllZip IsOwnFrom cs js → All IsOfOneCaller js
each_own [] [] z = All-nil IsOfOneCaller
each_own [] (j ∷ js) z = absurd z
each_own (c ∷ cs) [] z = absurd z
each_own (c ∷ cs) (j ∷ js) z = All-cons IsOfOneCaller j js z.0.own (each_own cs js z.1)

each_legal : (cs : List Copy) (js : List Journal) → AllZip IsOwnFrom cs js → All IsLegalJournal js
each_legal [] [] z = All-nil IsLegalJournal
each_legal [] (j ∷ js) z = absurd z
each_legal (c ∷ cs) [] z = absurd z
each_legal (c ∷ cs) (j ∷ js) z = All-cons IsLegalJournal j js z.0.legal (each_legal cs js z.1)

-- ---- all of them

-- what stands in the journals of the workers stands in those that are handed out
pub handed_out : (js ls : List Journal) (n : ℕ) (began : List Copy) (rs : List Receipt) (master : Journal) → js ≡ ls → length js ≡ n → IsLegalJournal master → AllZip IsOwnFrom began ls → IdsRiseFrom 0 began → All (StandsIn ls) rs
    → AreHandedOut n began rs master js
handed_out js ls n began rs master same all legal own rise stand =
    let from = each_from began ls own in
    let here : AreHandedOut n began rs master ls = record {
      legal = All-cons IsLegalJournal master ls legal (each_legal began ls own);
      all = subst (λ (l : List Journal). length l ≡ n) same all;
      from = from;
      order = rise_from 0 began ls from rise;
      gathered = each_own began ls own;
      stand = stand;
    } in
    subst (λ (l : List Journal). AreHandedOut n began rs master l) (sym same) here

pub lost_by : (js ls : List Journal) (began : List Copy) (rs : List Receipt) (place : ℕ) → js ≡ ls → AllZip IsOwnFrom began ls → IsFirstLost js rs place → IsLostBy began rs place
lost_by js ls began rs place same own lost = record { journals = ls; own = own; first = subst (λ (l : List Journal). IsFirstLost l rs place) same lost }
