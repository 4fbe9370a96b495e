-- What journals began with.
use Rattle.std.proofs.Common.{◌≡◌, ℕ, false, ◌+◌, ◌≤◌, List, [], ◌∷◌, length, Some, sym, ap, subst, ◌∙◌, arith}
use Rattle.std.specs.Prelude.{slice_get}
use mathlib.Core.List.{IsPrefix}
use Rattle.replica.specs.Copy.{Copy}
use Rattle.replica.specs.Logged.{Logged}
use Rattle.journal.specs.declared.journal.Deed.{Deed}
use Rattle.journal.specs.Journal.{IsLegal, open_at}
use Rattle.node.specs.Entry.{opening_of, HasSoundRecords, IsEntryFrom}
use Rattle.node.specs.Held.{JournalData, journal, IsHeld}
use Rattle.node.specs.Reading.{GotData, IsGot, IsGotSince, IsRead}
use Rattle.node.specs.Telling.{receipt}

-- of two lists of one copy each the one that begins the other has the same copy
pub one_opening : (xs ys : List Copy) → xs ≡ opening_of xs ∷ [] → ys ≡ opening_of ys ∷ [] → (length xs ≤ length ys → IsPrefix xs ys) → opening_of ys ≡ opening_of xs
one_opening [] ys e f pre = absurd (cc e)
one_opening (x ∷ xs) [] e f pre = absurd (cc f)
one_opening (x ∷ xs) (y ∷ ys) e f pre = let p = pre (omega (arith, ap length e, ap length f)) in cc (p.1)

-- the last entry of a journal is one since this beginning
pub entry_since : (h : JournalData) (l : Logged) (began : Copy) (node place : ℕ) (d : Deed) → node ≡ h.opening.id → IsHeld h l → began ≡ h.opening → place + 1 ≡ length h.deeds → slice_get h.deeds place ≡ Some d
    → IsEntryFrom began (receipt node place d h.deeds)
entry_since h l began node place d is held same last there = record {
  sound = subst HasSoundRecords (sym same) held.sound;
  legal = subst (λ (c : Copy). IsLegal (open_at c) 0 h.deeds) (sym same) held.legal;
  node_is = ap (λ (c : Copy). c.id) same ∙ sym is;
  last = last;
  stands = there;
}

-- what was read was read since this beginning
pub got_since : (g : GotData) (is : IsGot g) (began : Copy) → began ≡ is.journal.opening → IsGotSince began g
got_since g is began same =
    let h = is.journal in
    record {
      sound = subst HasSoundRecords (sym same) is.sound;
      legal = subst (λ (c : Copy). IsLegal (open_at c) 0 g.deeds) (sym same) (subst (λ (ds : List Deed). IsLegal (open_at h.opening) 0 ds) is.deeds_is is.legal);
      node_is = ap (λ (c : Copy). c.id) same ∙ is.node_is;
      place_is = is.place_is;
      read =
          subst (λ (c : Copy). IsRead (journal false c g.deeds) g.id g.answer) (sym same)
          (subst (λ (ds : List Deed). IsRead (journal false h.opening ds) g.id g.answer) is.deeds_is (record { open_then = is.read.open_then; has = is.read.has }));
    }
