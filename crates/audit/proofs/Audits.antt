-- An audit is right: what it refuses, no list of events is made of.
use Rattle.std.proofs.Common.{◌≡◌, ℕ, suc, List, [], ◌∷◌, Some, refl, sym, ap, subst, ◌∙◌, inl, inr, arith}
use Rattle.std.specs.Prelude.{slice_get}
use Rattle.doc.specs.Mapping.{MappingData}
use Rattle.master.specs.declared.state.State.{State}
use Rattle.world.specs.declared.event.Event.{Event}
use Rattle.journal.specs.declared.journal.Deed.{Deed}
use Rattle.journal.specs.declared.journal.Ruling.{Ruling}
use Rattle.journal.specs.declared.moves.Placed.{Placed}
use Rattle.audit.specs.Moves.{IsMade, IsHalted}
use Rattle.journal.specs.Journal.{Standing, IsLegal, next}
use Rattle.journal.specs.Rulings.{Ruler, AreLegal, next_ruler}
use Rattle.journal.specs.declared.journal.Journal.{Journal}
use Rattle.journal.specs.declared.journal.Journal.TheVariants.{OfMaster as of_master, OfCopy as of_copy}
use Rattle.audit.specs.Audit.{IsOpening, FailsAt, RulingFailsAt, IsFirstWrong, placed_of, moves_of, IsMadeOf, IsMissing, IsUncaused, IsDiffering}
use Rattle.journal.specs.Lawful.{IsLawful}
use Rattle.audit.proofs.Merging.{halted_none, halted_once}

not_legal : (s : Standing) (place : ℕ) (ds : List Deed) (at : ℕ) → FailsAt s place ds at → IsLegal s place ds → ⊥
not_legal s place [] at fails legal = fails
not_legal s place (d ∷ ds) at (inl here) legal = here.1 legal.0
not_legal s place (d ∷ ds) at (inr later) legal = not_legal (next s place d) (suc place) ds at later.1 legal.1

not_ruled : (s : Ruler) (place : ℕ) (rs : List Ruling) (at : ℕ) → RulingFailsAt s place rs at → AreLegal s rs → ⊥
not_ruled s place [] at fails legal = fails
not_ruled s place (r ∷ rs) at (inl here) legal = here.1 legal.0
not_ruled s place (r ∷ rs) at (inr later) legal = not_ruled (next_ruler s r) (suc place) rs at later.1 legal.1

not_lawful : (j : Journal) (at : ℕ) → IsFirstWrong j at → IsLawful j → ⊥
not_lawful (of_master s rs) at wrong legal = not_ruled _ 0 rs at wrong legal
not_lawful (of_copy c ds) at wrong legal = not_legal _ 0 ds at wrong legal

-- where a journal differs, no list of events is made of them
pub differing_none : (mapping : MappingData) (js : List Journal) (node place : ℕ) → IsDiffering mapping js node place → (n : ℕ) (es : List Event) → IsMadeOf mapping n js es → ⊥
differing_none mapping js node place d n es made = elim d.wrong [
  | inl begins ↦ begins.0 n made.size (λ i j lt there. made.pass i j there) passes.0
  | inr wrong ↦ not_lawful d.journal place wrong.2 passes.1
]
  where
    passes : IsOpening mapping n node d.journal × IsLawful d.journal
    passes = made.pass node d.journal d.there

-- nor where one is missing
pub missing_none : (mapping : MappingData) (js : List Journal) (node place : ℕ) → IsMissing mapping js node place → (n : ℕ) (es : List Event) → IsMadeOf mapping n js es → ⊥
missing_none mapping js node place d n es made = d.lacking made.all

-- the master's journal says how many copies there are
pub one_size : (mapping : MappingData) (n m : ℕ) (j : Journal) → IsOpening mapping n 0 j → IsOpening mapping m 0 j → n ≡ m
one_size mapping n m (of_master s rs) e f = let next : suc n ≡ suc m = ap (λ (x : State). x.next) (sym e ∙ f) in omega arith
one_size mapping n m (of_copy c ds) e f = absurd e

-- where the merge halts, no list of events is made of the journals
pub uncaused_none : (mapping : MappingData) (js : List Journal) (node place : ℕ) → IsUncaused mapping js node place → (n : ℕ) (es : List Event) → IsMadeOf mapping n js es → ⊥
uncaused_none mapping [] node place u n es made = let rest = u.halted.unfinished in absurd (omega arith)
uncaused_none mapping (j ∷ js) node place u n es made =
    let same : n ≡ u.copies = one_size mapping n u.copies j (made.pass 0 j refl).0 (u.pass 0 j refl).0 in
    halted_none mapping u.copies (moves_of (j ∷ js)) u.size.0 node u.count u.halted es (subst (λ (k : ℕ). IsMade mapping k (moves_of (j ∷ js)) es) same made.made)

-- the node and the place are one
pub uncaused_once : (mapping : MappingData) (js : List Journal) (node place other at : ℕ) → IsUncaused mapping js node place → IsUncaused mapping js other at → (node ≡ other) × (place ≡ at)
uncaused_once mapping [] node place other at u v = let rest = u.halted.unfinished in absurd (omega arith)
uncaused_once mapping (j ∷ js) node place other at u v =
    let size : v.copies ≡ u.copies = one_size mapping v.copies u.copies j (v.pass 0 j refl).0 (u.pass 0 j refl).0 in
    let halted : IsHalted mapping u.copies (moves_of (j ∷ js)) other v.count = subst (λ (k : ℕ). IsHalted mapping k (moves_of (j ∷ js)) other v.count) size v.halted in
    let one = halted_once mapping u.copies (moves_of (j ∷ js)) u.size.0 node u.count other v.count u.halted halted in
    let there : slice_get (placed_of (slice_get (j ∷ js) node)) u.count ≡ Some v.move = ap (λ (i : ℕ). slice_get (placed_of (slice_get (j ∷ js) i)) u.count) one.0 ∙ ap (λ (k : ℕ). slice_get (placed_of (slice_get (j ∷ js) other)) k) one.1 ∙ v.there in
    let move : u.move ≡ v.move = some_one u.move v.move (sym u.there ∙ there) in
    (one.0, sym u.at ∙ ap (λ (p : Placed). p.place) move ∙ v.at)
  where
    some_one : (p q : Placed) → Some p ≡ Some q → p ≡ q
    some_one p q e = cc
