-- Entries of one journal, seen at two moments.
use Rattle.std.proofs.Common.{◌≡◌, ◌<◌, ◌≤◌, List, [], length, refl, ap, sym, subst, ◌∙◌, arith}
use Rattle.std.specs.Prelude.{Option, Some}
use mathlib.Core.List.{IsPrefix}
use Rattle.chronicle.specs.Registered.{PrefixData}
use Rattle.journal.specs.declared.journal.Deed.{Deed}
use Rattle.node.specs.Entry.{Receipt, IsEntry}
use Rattle.node.specs.Reading.{GotData, IsGot, entries_in}

-- the entries of an earlier receipt begin those of a later one
pub shorter_begins : (a b : Receipt) → IsEntry a → IsEntry b → (length a.deeds ≤ length b.deeds → IsPrefix a.deeds b.deeds) → a.place ≤ b.place → IsPrefix a.deeds b.deeds
shorter_begins a b first second begins le = begins (omega (arith, first.last, second.last, le))

-- those of an entry before what was read
pub before_got : (r : Receipt) (g : GotData) (p : PrefixData Deed) → IsEntry r → IsGot g → g.deeds ≡ p.entries → (length r.deeds ≤ length p.entries → IsPrefix r.deeds p.entries) → r.place < g.place → IsPrefix r.deeds g.deeds
before_got r g p entry got is begins lt =
    let le : length r.deeds ≤ length p.entries = omega (arith, entry.last, got.place_is, ap length is, lt) in
    subst (λ ds. IsPrefix r.deeds ds) (sym is) (begins le)

pub behind_got : (r : Receipt) (g : GotData) (p : PrefixData Deed) → IsEntry r → IsGot g → g.deeds ≡ p.entries → (length p.entries ≤ length r.deeds → IsPrefix p.entries r.deeds) → g.place ≤ r.place → IsPrefix g.deeds r.deeds
behind_got r g p entry got is begins le =
    let fewer : length p.entries ≤ length r.deeds = omega (arith, entry.last, got.place_is, ap length is, le) in
    subst (λ ds. IsPrefix ds r.deeds) (sym is) (begins fewer)

-- where there were no entries
pub none_before : (r : Receipt) (g : GotData) → IsGot g → g.deeds ≡ [] → r.place < g.place → IsPrefix r.deeds g.deeds
none_before r g got is lt = absurd (let none : length g.deeds ≡ 0 = ap length is in omega (arith, got.place_is, none, lt))

pub none_behind : (r : Receipt) (g : GotData) → g.deeds ≡ [] → IsPrefix g.deeds r.deeds
none_behind r g is = subst (λ ds. IsPrefix ds r.deeds) (sym is) (r.deeds, refl)

pub before_upto : (r : Receipt) (g : GotData) (p : PrefixData Deed) (o : Option (PrefixData Deed)) (rs : List Deed) → IsEntry r → IsGot g → g.deeds ≡ entries_in o → o ≡ Some p → rs ≡ r.deeds → (length rs ≤ length p.entries → IsPrefix rs p.entries)
    → r.place < g.place → IsPrefix r.deeds g.deeds
before_upto r g p o rs entry got is some same begins lt = before_got r g p entry got (is ∙ ap entries_in some) (subst (λ ds. length ds ≤ length p.entries → IsPrefix ds p.entries) same begins) lt

pub behind_upto : (r : Receipt) (g : GotData) (p : PrefixData Deed) (o : Option (PrefixData Deed)) (rs : List Deed) → IsEntry r → IsGot g → g.deeds ≡ entries_in o → o ≡ Some p → rs ≡ r.deeds → (length p.entries ≤ length rs → IsPrefix p.entries rs)
    → g.place ≤ r.place → IsPrefix g.deeds r.deeds
behind_upto r g p o rs entry got is some same begins le = behind_got r g p entry got (is ∙ ap entries_in some) (subst (λ ds. length p.entries ≤ length ds → IsPrefix p.entries ds) same begins) le
