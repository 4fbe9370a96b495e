-- Places of the writes of a bulk.
use Rattle.std.proofs.Common.{◌≡◌, ℕ, zero, suc, ◌+◌, ◌<◌, List, [], ◌∷◌, ◌++◌, length, take, get_or, subst, sym, arith}
use Rattle.node.specs.Entry.{Receipt}
use Rattle.replica.specs.declared.output.Item.{Item}
use Rattle.std.specs.Prelude.{All, Option, Some, None, Result, Ok, Err, IfOk, IfSome, Vec}
use Rattle.std.specs.declared.alloc.Global.{Global}
use Rattle.cluster.specs.declared.confirmed.ConfirmedBulk.{ConfirmedBulk}
use Rattle.cluster.specs.Bulks.{AreBulkSettledAt, AreSettledAt, IsSettledAt, IsSettledBulk}
use Rattle.cluster.specs.Confirmed.{IsBehind}

-- one item more has its place
settled_one : (entries : List Receipt) (items : List Item) (n : ℕ) (default : Item) (places : List ℕ) (place : ℕ) → n < length items → AreSettledAt entries (take n items) places → IsSettledAt entries (get_or items n default) place
    → AreSettledAt entries (take (suc n) items) (places ++ place ∷ [])
settled_one entries [] n default places place within before now = absurd (omega (arith, within))
settled_one entries (one ∷ items) zero default [] place within before now = (now, tt)
settled_one entries (one ∷ items) zero default (p ∷ places) place within before now = absurd before
settled_one entries (one ∷ items) (suc n) default [] place within before now = absurd before
settled_one entries (one ∷ items) (suc n) default (p ∷ places) place within before now = (before.0, settled_one entries items n default places place (omega (arith, within)) before.1 now)

pub settled_more : (entries : List Receipt) (items : List Item) (n : ℕ) (default : Item) (places after : List ℕ) (place : ℕ) → n < length items → AreSettledAt entries (take n items) places → IsSettledAt entries (get_or items n default) place
    → after ≡ places ++ place ∷ [] → AreSettledAt entries (take (n + 1) items) after
settled_more entries items n default places after place within before now is =
    let up : suc n ≡ n + 1 = omega arith in
    let one = settled_one entries items n default places place within before now in
    subst (λ (k : ℕ). AreSettledAt entries (take k items) after) up (subst (λ (ps : List ℕ). AreSettledAt entries (take (suc n) items) ps) (sym is) one)

-- what holds already holds of whatever is answered
pub held_anyway : {A E : Type 0} (P : Type 0) (r : Result (Option A) E) → P → IfOk r (λ o. IfSome o (λ ps. P))
held_anyway P (Ok None) is = tt
held_anyway P (Ok (Some ps)) is = is
held_anyway P (Err e) is = tt

pub settled_bulk : {J : Type 0} (bulk : Receipt) (c : ConfirmedBulk J) → c.bulk ≡ bulk → AreBulkSettledAt c.bulk c.acknowledgements.items c.places.items → All (IsBehind c.bulk) c.acknowledgements.items → IsSettledBulk bulk c
settled_bulk bulk c is settled behind = record { is = is; settled = settled; behind = behind }

-- the places of a bulk that is made of its entries
pub settled_in : {J : Type 0} (bulk : Receipt) (c : ConfirmedBulk J) (entries : List Receipt) (o : Option (Vec ℕ Global)) (places : Vec ℕ Global) → c.bulk ≡ bulk → entries ≡ c.acknowledgements.items → o ≡ Some places
    → IfSome o (λ ps. AreBulkSettledAt bulk entries ps.items) → IfSome o (λ ps. All (IsBehind bulk) entries) → c.places ≡ places → IsSettledBulk bulk c
settled_in bulk c entries o places is same some settled behind at =
    let now : AreBulkSettledAt bulk entries places.items = subst (λ (x : Option (Vec ℕ Global)). IfSome x (λ ps. AreBulkSettledAt bulk entries ps.items)) some settled in
    let all : All (IsBehind bulk) entries = subst (λ (x : Option (Vec ℕ Global)). IfSome x (λ ps. All (IsBehind bulk) entries)) some behind in
    settled_bulk bulk c is
    (subst (λ (b : Receipt). AreBulkSettledAt b c.acknowledgements.items c.places.items) (sym is)
    (subst (λ (es : List Receipt). AreBulkSettledAt bulk es c.places.items) same (subst (λ (ps : Vec ℕ Global). AreBulkSettledAt bulk entries ps.items) (sym at) now)))
    (subst (λ (b : Receipt). All (IsBehind b) c.acknowledgements.items) (sym is) (subst (λ (es : List Receipt). All (IsBehind bulk) es) same all))
