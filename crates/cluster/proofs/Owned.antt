-- The pass of a copy's worker: a receipt of each entry, in order.
use Rattle.std.proofs.Common.{◌≡◌, ℕ, ◌+◌, ◌<◌, ◌≤◌, ◌==◌, ◌||◌, Bool, true, false, List, [], ◌∷◌, ◌++◌, length, refl, sym, ap, subst, ◌∙◌, arith, append_assoc, inl, inr, ⊎_elim, Some, Result, Ok, Err, IfOk, IfErr}
use Rattle.std.specs.Prelude.{slice_get, All, IsOk}
use Rattle.std.proofs.lemmas.Bool.Decides.{nat_tests}
use Rattle.std.proofs.lemmas.List.{length_push}
use Rattle.std.proofs.lemmas.List.Elements.{All-nil, All-cons}
use Rattle.core.proofs.str.Laws.{order}
use Rattle.journal.specs.declared.journal.Deed.{Deed}
use Rattle.journal.specs.declared.journal.Journal.TheVariants.{OfCopy}
use Rattle.replica.specs.Copy.{Copy}
use Rattle.replica.specs.declared.input.Input.{Input}
use Rattle.cell.specs.Publishing.{CellData, IsRefusedCall}
use Rattle.node.specs.declared.fault.NodeFault.{NodeFault}
use Rattle.node.specs.declared.fault.NodeFault.TheVariants.{NoMemory, NoSeat, Copy as Refused, Stray, Forgotten}
use Rattle.node.specs.Entry.{Receipt}
use Rattle.node.specs.Gathered.{has_place, AreNext, IsNext}
use Rattle.node.specs.Held.{JournalData, IsCall}
use Rattle.node.specs.Passes.{PassData}
use Rattle.cluster.specs.Journals.{IsOfOneCaller}
use Rattle.cluster.specs.Owned.{AreReceiptsOf, IsOwnPass}

-- ---- one call after another

one_more : (n at : ℕ) (ds : List Deed) (rs : List Receipt) (r : Receipt) → AreReceiptsOf n at ds rs → r.place ≡ at + length ds → r.deed.pass ≡ n → AreReceiptsOf n at (ds ++ r.deed ∷ []) (rs ++ r ∷ [])
one_more n at [] [] r h place pass = (omega (arith, place), refl, pass, tt)
one_more n at [] (s ∷ rs) r h place pass = absurd h
one_more n at (d ∷ ds) [] r h place pass = absurd h
one_more n at (d ∷ ds) (s ∷ rs) r h place pass = (h.0, h.1, h.2, one_more n (1 + at) ds rs r h.3 (omega (arith, place)) pass)

own_call : (old new : JournalData) (p q : PassData) (input : Input) (r : Receipt) → IsOwnPass old p → IsCall old new p q input r → IsOwnPass new q
own_call old new p q input r own call =
    let h = record old { deeds = old.deeds ++ r.deed ∷ [] } in
    let x = record p { receipts = p.receipts ++ r ∷ [] } in
    let both : IsOwnPass h x = record {
      number = own.number;
      all = λ kept. one_more p.number 0 old.deeds p.receipts r (own.all kept) (omega (arith, call.place)) call.number;
    } in
    subst (λ (j : JournalData). IsOwnPass j q) (sym call.journal) (subst (λ (y : PassData). IsOwnPass h y) (sym call.pass) both)

same_own : (old new : JournalData) (p q : PassData) → new ≡ old → q ≡ p → IsOwnPass old p → IsOwnPass new q
same_own old new p q journal pass own = subst (λ (j : JournalData). IsOwnPass j q) (sym journal) (subst (λ (y : PassData). IsOwnPass old y) (sym pass) own)

refused_own : (old new : CellData) (p q : PassData) (input : Input) (e : NodeFault) → IsOwnPass old.journal p → IsRefusedCall old new p q input e → IsOwnPass new.journal q
refused_own old new p q input NoMemory own (inl k) = same_own old.journal new.journal p q k.denied.0 k.denied.1 own
refused_own old new p q input NoMemory own (inr u) = own_call old.journal new.journal p q input u.receipt own u.call
refused_own old new p q input NoSeat own k = absurd k
refused_own old new p q input (Stray place) own k = same_own old.journal new.journal p q k.denied.0 k.denied.1 own
refused_own old new p q input (Forgotten place) own k = same_own old.journal new.journal p q k.denied.0 k.denied.1 own
refused_own old new p q input (Refused e) own k = own_call old.journal new.journal p q input k.denied.0.0 own k.denied.0.1

-- a call, whatever comes of it
pub own_after : (old new : CellData) (p q : PassData) (input : Input) (result : Result Receipt NodeFault) → IsOwnPass old.journal p
    → IfOk result (λ r. IsCall old.journal new.journal p q input r × IsOk r.deed.answer) → IfErr result (IsRefusedCall old new p q input) → IsOwnPass new.journal q
own_after old new p q input (Ok r) own ok err = own_call old.journal new.journal p q input r own ok.0
own_after old new p q input (Err e) own ok err = refused_own old new p q input e own err

-- none yet
pub own_new : (h : JournalData) (p : PassData) (n : ℕ) → h.deeds ≡ [] → n ≡ h.opening.id → p ≡ record { number = n; receipts = [] } → IsOwnPass h p
own_new h p n empty id is = subst (λ (y : PassData). IsOwnPass h y) (sym is) (record {
  number = id;
  all = λ kept. subst (λ (ds : List Deed). AreReceiptsOf n 0 ds []) (sym empty) tt;
})

-- none any more, where the journal isn't kept
pub own_unkept : (h : JournalData) (p q : PassData) → h.kept ≡ false → q ≡ record { number = p.number; receipts = [] } → IsOwnPass h p → IsOwnPass h q
own_unkept h p q unkept is own = subst (λ (y : PassData). IsOwnPass h y) (sym is) (record {
  number = own.number;
  all = λ kept. absurd (let no : false ≡ true = sym unkept ∙ kept in cc);
})

pub own_same : (old new : CellData) (p : PassData) → new ≡ old → IsOwnPass old.journal p → IsOwnPass new.journal p
own_same old new p same own = subst (λ (c : CellData). IsOwnPass c.journal p) (sym same) own

-- ---- such receipts are those of one caller

abbrev AreBelow : ℕ → List Receipt → Type 0
AreBelow at [] = Unit {0}
AreBelow at (r ∷ rs) = (r.place < at) × AreBelow at rs

other_place : (a b : ℕ) → a < b → (a == b) ≡ false
other_place a b lt = grind (arith, nat_tests)

same_place : (a b : ℕ) → a ≡ b → (a == b) ≡ true
same_place a b e = grind (arith, nat_tests)

none_there : (at : ℕ) (rs : List Receipt) → AreBelow at rs → has_place rs at ≡ false
none_there at [] h = refl
none_there at (r ∷ rs) h = ap (λ b. b || has_place rs at) (other_place r.place at h.0) ∙ none_there at rs h.1

below_more : (at : ℕ) (rs : List Receipt) (r : Receipt) → AreBelow at rs → r.place ≡ at → AreBelow (1 + at) (rs ++ r ∷ [])
below_more at [] r h e = (omega (arith, e), tt)
below_more at (s ∷ rs) r h e = (omega (arith, h.0), below_more at rs r h.1 e)

get_there : (front : List Deed) (d : Deed) (ds : List Deed) → slice_get (front ++ d ∷ ds) (length front) ≡ Some d
get_there [] d ds = refl
get_there (e ∷ front) d ds = get_there front d ds

each_next : (o : Copy) (n : ℕ) (front ds : List Deed) (before rs : List Receipt) → AreReceiptsOf n (length front) ds rs → AreBelow (length front) before → AreNext (OfCopy o (front ++ ds)) before rs
each_next o n front [] before [] h low = tt
each_next o n front [] before (r ∷ rs) h low = absurd h
each_next o n front (d ∷ ds) before [] h low = absurd h
each_next o n front (d ∷ ds) before (r ∷ rs) h low =
    let here : IsNext (OfCopy o (front ++ d ∷ ds)) before r = record {
      stands = ap (slice_get (front ++ d ∷ ds)) h.0 ∙ (get_there front d ds ∙ ap Some (sym h.1));
      alone = ap (has_place before) h.0 ∙ none_there (length front) before low;
    } in
    let long : 1 + length front ≡ length (front ++ d ∷ []) = omega (arith, length_push front d) in
    let rest = each_next o n (front ++ d ∷ []) ds (before ++ r ∷ []) rs (subst (λ (k : ℕ). AreReceiptsOf n k ds rs) long h.3) (subst (λ (k : ℕ). AreBelow k (before ++ r ∷ [])) long (below_more (length front) before r low h.0)) in
    (here, subst (λ (all : List Deed). AreNext (OfCopy o all) (before ++ r ∷ []) rs) (append_assoc front (d ∷ []) ds) rest)

or_here : (b c : Bool) → b ≡ true → (b || c) ≡ true
or_here b c e = ap (λ x. x || c) e

or_later : (b c : Bool) → c ≡ true → (b || c) ≡ true
or_later true c e = refl
or_later false c e = e

has_each : (n at : ℕ) (ds : List Deed) (rs : List Receipt) (place : ℕ) → AreReceiptsOf n at ds rs → at ≤ place → place < at + length ds → has_place rs place ≡ true
has_each n at [] rs place h low high = absurd (let no : ⊥ = omega (arith, low, high) in no)
has_each n at (d ∷ ds) [] place h low high = absurd h
has_each n at (d ∷ ds) (r ∷ rs) place h low high = ⊎_elim
    (λ less. or_later (r.place == place) (has_place rs place) (has_each n (1 + at) ds rs place h.3 (omega (arith, less)) (omega (arith, high))))
    (λ most. or_here (r.place == place) (has_place rs place) (same_place r.place place (omega (arith, h.0, low, most))))
    (order at place)

each_numbered : (n at : ℕ) (ds : List Deed) (rs : List Receipt) → AreReceiptsOf n at ds rs → All (λ r. r.deed.pass ≡ n) rs
each_numbered n at [] [] h = All-nil (λ (r : Receipt). r.deed.pass ≡ n)
each_numbered n at [] (r ∷ rs) h = absurd h
each_numbered n at (d ∷ ds) [] h = absurd h
each_numbered n at (d ∷ ds) (r ∷ rs) h = All-cons (λ (s : Receipt). s.deed.pass ≡ n) r rs (ap (λ (x : Deed). x.pass) h.1 ∙ h.2) (each_numbered n (1 + at) ds rs h.3)

pub one_caller : (h : JournalData) (p : PassData) → IsOwnPass h p → h.kept ≡ true → IsOfOneCaller (OfCopy h.opening h.deeds)
one_caller h p own kept =
    let all = own.all kept in record {
      receipts = p.receipts;
      stand = each_next h.opening p.number [] h.deeds [] p.receipts all tt;
      whole = λ place lt. has_each p.number 0 h.deeds p.receipts place all (omega arith) (omega (arith, lt));
      numbered = subst (λ (n : ℕ). All (λ r. r.deed.pass ≡ n) p.receipts) own.number (each_numbered p.number 0 h.deeds p.receipts all);
    }
